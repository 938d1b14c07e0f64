-- `bench::bench_read` meets its contract: the read's contract for the field, with its number and length packed. Assumes nothing.
use mathlib.Core.Path.{sym, subst, ◌∙◌}
use Prim.Native.Nat.{ℕ, ◌^◌, ◌<◌}
use Rattle.job.specs.Calls.{read_number, read_length, read_work}
use Rattle.job.proofs.Field.{given_field}
use Rattle.bench.specs.Packed.{packed}
use Rattle.bench.proofs.Lengths.{read_small}
use Rattle.bench.proofs.bench_read.Goals as goal

pub pack-requires : goal.pack-requires
pack-requires c = subst (λ (n : ℕ). n < 2 ^ 32) (sym c.read.ensures.size) (read_small (given_field c.field.ensures) _ _)

pub returns : goal.returns
returns c = let e = c.read.ensures in
    let limits = c.field.ensures in
    let p = c.args in record { answer = c.pack.ensures ∙ (λ i. packed (e.number i) (e.size i)) ∙ (λ i. packed (read_number (limits i) p.file.now p.work.now) (read_length (limits i) p.file.now p.work.now)); work = e.work ∙ (λ i. read_work (limits i) p.file.now p.work.now) }

pub read-requires : goal.read-requires
read-requires c = given_field c.field.ensures
