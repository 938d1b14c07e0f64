-- `bench::bench_write` meets its contract: the write's contract for the field, with its number and length packed. Assumes nothing.
use mathlib.Core.Path.{sym, subst, ◌∙◌}
use Prim.Native.Nat.{ℕ, ◌^◌, ◌<◌}
use Rattle.job.specs.Calls.{write_number, write_length, write_out}
use Rattle.job.proofs.Field.{given_field}
use Rattle.bench.specs.Packed.{packed}
use Rattle.bench.proofs.Lengths.{write_small}
use Rattle.bench.proofs.bench_write.Goals as goal

pub pack-requires : goal.pack-requires
pack-requires c = subst (λ (n : ℕ). n < 2 ^ 32) (sym c.write.ensures.size) (write_small (given_field c.field.ensures) _ _)

pub returns : goal.returns
returns c = let e = c.write.ensures in
    let limits = c.field.ensures in
    let p = c.args in record { answer = c.pack.ensures ∙ (λ i. packed (e.number i) (e.size i)) ∙ (λ i. packed (write_number (limits i) p.stream.now p.out.now) (write_length (limits i) p.stream.now p.out.now)); out = e.out ∙ (λ i. write_out (limits i) p.stream.now p.out.now) }

pub write-requires : goal.write-requires
write-requires c = given_field c.field.ensures
