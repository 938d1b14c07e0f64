-- `bench::bench_salvage` meets its contract: the salvage's contract for the field, with its number and length packed. Assumes nothing.
use mathlib.Core.Path.{sym, subst, ◌∙◌}
use Rattle.std.proofs.Common.{rules}
use Prim.Native.Nat.{ℕ, ◌^◌, ◌<◌}
use Rattle.job.specs.declared.Limits.{Limits}
use Rattle.job.proofs.Field.{given_field}
use Rattle.remains.specs.Salvage.{salvage_number, salvage_length, salvage_out, salvage_work}
use Rattle.salvager.proofs.Answered.{Claimed}
use Rattle.bench.specs.Packed.{packed}
use Rattle.bench.proofs.Lengths.{salvage_small}
use Rattle.bench.proofs.Given.{length_alone}
use Rattle.bench.proofs.bench_salvage.Goals as goal

pub pack-requires : goal.pack-requires
pack-requires c =
    let alone = length_alone _ c.salvage-answer.result c.map.result c.map.ensures.cases (λ x n h. search rules) in
    subst (λ (n : ℕ). n < 2 ^ 32) (sym (alone.1 ∙ c.salvage-answer.ensures.size)) (salvage_small (given_field c.field.ensures) _ _ _)

pub returns : goal.returns
returns c = let e = c.salvage-answer.ensures in
    let alone = length_alone _ c.salvage-answer.result c.map.result c.map.ensures.cases (λ x n h. search rules) in
    let limits = c.field.ensures in
    let p = c.args in
    let claims = subst (λ (l : Limits). Claimed l p.file.now) limits (e.undamaged, (e.proper, e.answers)) in
    record {
      answer = c.pack.ensures ∙ (λ i. packed (alone.0 i) (alone.1 i)) ∙ (λ i. packed (e.number i) (e.size i)) ∙ (λ i. packed (salvage_number (limits i) p.file.now p.work.now p.out.now) (salvage_length (limits i) p.file.now p.work.now p.out.now));
      out = e.out ∙ (λ i. salvage_out (limits i) p.file.now p.work.now p.out.now);
      work = e.work ∙ (λ i. salvage_work (limits i) p.work.now p.out.now);
      undamaged = claims.0;
      proper = claims.1.0;
      answers = claims.1.1;
    }

pub salvage-answer-requires : goal.salvage-answer-requires
salvage-answer-requires c = given_field c.field.ensures
