-- The file of a stream, and what a file holds. Document 01, "Job files": "Each block's payload is copied into the joined stream
-- behind the one before"; "zeros to the block's end"; "blocks exactly L / 506 rounded up: 35 at most, 17,920 bytes".
use Rattle.std.specs.Prelude.{ℕ, zero, suc, ◌-◌, ◌*◌, ◌/◌, ◌%◌, Bool, not, ◌||◌, List, [], ◌∷◌, ◌++◌, length, take, drop, replicate}
use Rattle.basics.specs.Choice.{pick, same, less}
use Rattle.block.specs.Block.{block_size, payload_size, block, payload_of, block_refusal}
use Rattle.job.specs.declared.Limits.{Limits}
use Rattle.job.specs.Limits.{most_file, most_stream}
use Rattle.job.specs.Stream.{stream_length}
use Rattle.job.specs.Refusals.{first_met, exact_count, header_conditions, list_conditions, bad_padding}

-- so many zeros
unfoldable pub zeros : ℕ → List ℕ
zeros n = replicate n 0

-- the block at a position of a file
unfoldable pub block_at : List ℕ → ℕ → List ℕ
block_at file i = take block_size (drop (block_size * i) file)

-- how many blocks a file has
unfoldable pub block_count : List ℕ → ℕ
block_count file = length file / block_size

-- the payloads of `count` blocks from position `i` up, one behind the other
unfoldable pub payloads : List ℕ → ℕ → ℕ → List ℕ
payloads file i zero = []
payloads file i (suc count) = payload_of (block_at file i) ++ payloads file (suc i) count

-- the joined stream of a file, with its padding
unfoldable pub joined : List ℕ → List ℕ
joined file = payloads file 0 (block_count file)

-- `count` blocks from number `i` up, which hold a padded stream's bytes from payload `i` up
unfoldable pub blocks : List ℕ → ℕ → ℕ → List ℕ
blocks s i zero = []
blocks s i (suc count) = block i (take payload_size (drop (payload_size * i) s)) ++ blocks s (suc i) count

-- a stream with "zeros to the block's end"
unfoldable pub padded : List ℕ → List ℕ
padded s = s ++ zeros (payload_size * exact_count s - length s)

-- the file of a stream
unfoldable pub file_of : List ℕ → List ℕ
file_of s = blocks (padded s) 0 (exact_count s)

-- number 2: "file length | 0, over 17,920, or not a multiple of 512"
unfoldable pub bad_length : Limits → List ℕ → Bool
bad_length l file = same (length file) 0 || less (most_file l) (length file) || not (same (length file % block_size) 0)

-- "block, ascending | 3"; "same block, next | 4": the refusal of the first refused block of `count` from position `i` up, 0 if none is
unfoldable pub blocks_refusal : List ℕ → ℕ → ℕ → ℕ
blocks_refusal file i zero = 0
blocks_refusal file i (suc count) =
    let own : ℕ = block_refusal i (block_at file i) in
    let later : ℕ = blocks_refusal file (suc i) count in
    pick (same own 0) later own

-- number 9: "block count | not the exact count"
unfoldable pub bad_count : List ℕ → Bool
bad_count file = not (same (block_count file) (exact_count (joined file)))

-- the numbers 5 to 12, of a file whose blocks give their payloads
unfoldable pub stream_refusal : Limits → List ℕ → ℕ
stream_refusal l file =
    let s : List ℕ = joined file in
    first_met (header_conditions l s ++ (9, bad_count file) ∷ list_conditions s ++ (12, bad_padding s) ∷ [])

-- the numbers 2 to 12, of a file; 0 where it is accepted
unfoldable pub file_refusal : Limits → List ℕ → ℕ
file_refusal l file =
    let of_blocks : ℕ = blocks_refusal file 0 (block_count file) in
    let of_stream : ℕ = stream_refusal l file in
    pick (bad_length l file) 2 (pick (same of_blocks 0) of_stream of_blocks)

-- the stream in an accepted file, without padding
unfoldable pub stream_of : List ℕ → List ℕ
stream_of file = take (stream_length (joined file)) (joined file)

-- some bytes "followed by zeros", up to the length of the longest stream
unfoldable pub zeros_behind : Limits → List ℕ → List ℕ
zeros_behind l s = s ++ zeros (most_stream l - length s)

-- the stream in an accepted file, followed by zeros
unfoldable pub zero_filled : Limits → List ℕ → List ℕ
zero_filled l file = zeros_behind l (stream_of file)
