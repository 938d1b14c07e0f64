-- `bench::bench_replay` meets its contract: the replay's contract for the field, with its number and length packed. Assumes nothing.
use mathlib.Core.Path.{sym, ap, subst, ◌∙◌}
use Prim.Native.Nat.{ℕ, ◌^◌, ◌<◌}
use native.Mathlib.Omega.{arith}
use Rattle.basics.specs.Maps.{at}
use Rattle.job.specs.declared.Limits.{Limits}
use Rattle.job.proofs.Field.{given_field}
use Rattle.replayer.specs.Replay.{replay_number, replay_length, replay_report, replay_work}
use Rattle.bench.specs.Packed.{packed}
use Rattle.bench.proofs.Lengths.{replay_small}
use Rattle.bench.proofs.bench_replay.Goals as goal

pub pack-requires : goal.pack-requires
unfolding at
pack-requires c = let limits = c.field.ensures in
    subst (λ (n : ℕ). n < 2 ^ 32) (sym c.replay.ensures.size)
    (replay_small (given_field limits) _ _ _ _ (omega (arith, ap (λ (l : Limits). l.report) limits)) (record { byte = λ i. (c.type_inv.file i).fits }))

pub returns : goal.returns
returns c = let e = c.replay.ensures in
    let limits = c.field.ensures in
    let p = c.args in
    let accepted = e.number ∙ (λ i. replay_number (limits i) p.file.now p.windows.now p.work.now p.report.now) in record { answer = c.pack.ensures ∙ (λ i. packed (e.number i) (e.size i)) ∙ (λ i. packed (replay_number (limits i) p.file.now p.windows.now p.work.now p.report.now) (replay_length (limits i) p.file.now p.windows.now p.work.now p.report.now)); report = e.report ∙ (λ i. replay_report (limits i) p.file.now p.windows.now p.work.now p.report.now); work = e.work ∙ (λ i. replay_work (limits i) p.work.now p.report.now); explained = λ z. e.explained (accepted ∙ z); bounded = λ z. e.bounded (accepted ∙ z); cut = λ z. e.cut (accepted ∙ z) }

pub replay-requires : goal.replay-requires
replay-requires c = given_field c.field.ensures
