-- A stream whose schedule is shortened: every byte of its header and records but the count of entries, and each entry that is kept, is as it was. Assumes nothing.
use mathlib.Core.Path.{◌≡◌, ap, ap₂, ◌∙◌}
use Prim.Native.Nat.{ℕ, suc, ◌+◌, ◌-◌, ◌*◌, ◌≤◌, ◌<◌}
use native.Mathlib.Omega.{arith}
use mathlib.Core.List.{List, ◌++◌}
use lib.ListN.{length, take, drop, get_or, length-append, length-drop, get_or-append}
use lib.Seq.{length-take-le, get_or-take, get_or-drop, get_or-append-add}
use Rattle.basics.specs.Maps.{at}
use Rattle.basics.specs.Words.{word, word_bytes}
use Rattle.basics.proofs.Words.{word_read}
use Rattle.job.specs.Stream.{kind, processes, operations, schedule_length, record_at, process, action, value, scheduled}
use Rattle.remains.specs.Kept.{records_end, entries_kept, shortened}
use Rattle.remains.specs.Claims.{FirstEntries}

-- a stream `t` that has the bytes of another up to its `n`-th entry, but for the count of entries, which is `n`
pub record SameButCount (n : ℕ) (s t : List ℕ) : Type 0 where
  pub front : (i : ℕ) → i < 4 → at t i ≡ at s i
  pub behind : (i : ℕ) → 6 ≤ i → i < 6 + 4 * operations s + n → at t i ≡ at s i
  pub count : schedule_length t ≡ n
  pub no_more : n ≤ schedule_length s

module _ {n : ℕ} {s t : List ℕ} (a : SameButCount n s t) where
  pub kind_kept : kind t ≡ kind s
  unfolding kind
  kind_kept = a.front 0 (omega arith)

  pub processes_kept : processes t ≡ processes s
  unfolding processes
  processes_kept = a.front 1 (omega arith)

  pub operations_kept : operations t ≡ operations s
  unfolding operations word
  operations_kept = ap₂ (λ (x y : ℕ). 256 * x + y) (a.front 2 (omega arith)) (a.front 3 (omega arith))

  value_kept : (o : ℕ) → 1 ≤ o → o ≤ operations s → value t o ≡ value s o
  unfolding value word record_at
  value_kept o low high = ap₂ (λ (x y : ℕ). 256 * x + y) (a.behind (2 + 4 * o + 2) (omega arith) (omega arith)) (a.behind (suc (2 + 4 * o + 2)) (omega arith) (omega arith))

  entry_kept : (k : ℕ) → 1 ≤ k → k ≤ n → scheduled t k ≡ scheduled s k
  unfolding scheduled
  entry_kept k low high = ap (λ (c : ℕ). at t (5 + 4 * c + k)) operations_kept ∙ a.behind (5 + 4 * operations s + k) (omega arith) (omega arith)

  pub first_entries : FirstEntries n s t
  unfolding process action record_at
  first_entries =
      record {
        kinds = kind_kept;
        process_counts = processes_kept;
        operation_counts = operations_kept;
        step_count = a.count;
        no_more = a.no_more;
        owners = λ o low high. a.behind (2 + 4 * o) (omega arith) (omega arith);
        actions = λ o low high. a.behind (2 + 4 * o + 1) (omega arith) (omega arith);
        values = value_kept;
        entries = entry_kept;
      }

-- the shortened stream is such a one
module _ (s : List ℕ) (whole : records_end s ≤ length s) where
  abbrev n : ℕ
  n = entries_kept s

  fits : (4 * operations s + n ≤ length (drop 6 s)) × (4 ≤ length s) × (n ≤ schedule_length s)
  unfolding entries_kept records_end
  fits = let behind : length (drop 6 s) ≡ length s - 6 = length-drop 6 s in (omega arith, omega arith, omega arith)

  length_front : length (take 4 s) ≡ 4
  length_front = length-take-le 4 s fits.1

  length_rest : length (take (4 * operations s + n) (drop 6 s)) ≡ 4 * operations s + n
  length_rest = length-take-le (4 * operations s + n) (drop 6 s) fits.0

  pub length_shortened : length (shortened s) ≡ 6 + 4 * operations s + n
  unfolding shortened word_bytes
  length_shortened =
      let sum : length (shortened s) ≡ length (take 4 s) + suc (suc (length (take (4 * operations s + n) (drop 6 s)))) = length-append (take 4 s) _ in
      omega (arith, length_front, length_rest)

  pub same_but_count : n < 65536 → SameButCount n s (shortened s)
  unfolding shortened schedule_length at word_bytes
  same_but_count few =
      let back : List ℕ = word_bytes n ++ take (4 * operations s + n) (drop 6 s) in
      record {
        front = λ i h. get_or-append (take 4 s) back 0 i (omega (arith, length_front)) ∙ get_or-take 4 s i 0 h;
        behind =
            λ i low high.
            ap (λ (k : ℕ). get_or (take 4 s ++ back) k 0) (let e : i ≡ length (take 4 s) + suc (suc (i - 6)) = omega (arith, length_front) in e)
            ∙ get_or-append-add (take 4 s) back (suc (suc (i - 6))) 0
            ∙ get_or-take (4 * operations s + n) (drop 6 s) (i - 6) 0 (omega arith)
            ∙ get_or-drop 6 s (i - 6) 0
            ∙ ap (λ (k : ℕ). get_or s k 0) (let e : 6 + (i - 6) ≡ i = omega arith in e);
        count = word_read (take 4 s) (take (4 * operations s + n) (drop 6 s)) n 4 length_front few;
        no_more = fits.2;
      }
