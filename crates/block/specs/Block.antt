-- One block of a job file. Document 01, "Job files": "Blocks of 512 bytes. […] Bytes 0 to 1: block number from 0. Bytes 2 to
-- 507: payload. Bytes 508 to 509: sum a; 510 to 511: sum b."
use Rattle.std.specs.Prelude.{ℕ, ◌+◌, ◌%◌, Bool, not, ◌||◌, List, [], ◌∷◌, ◌++◌, take, drop}
use Rattle.basics.specs.Choice.{pick, same}
use Rattle.basics.specs.Words.{word, word_bytes}
use Rattle.block.specs.declared.Sums.{Sums}

-- "Blocks of 512 bytes."
unfoldable pub block_size : ℕ
block_size = 512

-- "Bytes 2 to 507: payload", 506 of them
unfoldable pub payload_size : ℕ
payload_size = 506

-- "each of bytes 0 to 507": the bytes that the sums are over, number and payload
unfoldable pub summed_size : ℕ
summed_size = 2 + payload_size

-- "each of bytes 0 to 507 is added to a, then a to b; both sums run over at 65,536 on purpose"
unfoldable pub add_byte : Sums → ℕ → Sums
add_byte s x =
    let a : ℕ = (s.a + x) % 65536 in
    record { a = a; b = (s.b + a) % 65536 }

-- the sums after some more bytes
unfoldable pub add_bytes : Sums → List ℕ → Sums
add_bytes s [] = s
add_bytes s (x ∷ l) = add_bytes (add_byte s x) l

-- "With a = 1 and b = 0 at first"
unfoldable pub sums : List ℕ → Sums
sums l = add_bytes (record { a = 1; b = 0 }) l

-- the block that holds a number and a payload of 506 bytes
unfoldable pub block : ℕ → List ℕ → List ℕ
block number payload =
    let front : List ℕ = word_bytes number ++ payload in
    let s : Sums = sums front in
    front ++ (word_bytes s.a ++ word_bytes s.b)

-- "Bytes 2 to 507: payload."
unfoldable pub payload_of : List ℕ → List ℕ
payload_of b = take payload_size (drop 2 b)

-- number 3: "a sum differs"
unfoldable pub sum_differs : List ℕ → Bool
sum_differs b =
    let s : Sums = sums (take summed_size b) in
    not (same (word b summed_size) s.a) || not (same (word b (summed_size + 2)) s.b)

-- number 4: "its number is not its position"
unfoldable pub misplaced : ℕ → List ℕ → Bool
misplaced position b = not (same (word b 0) position)

-- "A block gives its 506 payload bytes or its refusal": the refusal's number, 0 where it gives its payload
unfoldable pub block_refusal : ℕ → List ℕ → ℕ
block_refusal position b = pick (sum_differs b) 3 (pick (misplaced position b) 4 0)
