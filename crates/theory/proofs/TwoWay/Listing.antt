-- The listings of a two-way linked stack for the general theory: the phase of each row, and the move that each turn is. A round begins where a take
-- reads the upper of its node, W2: there a take that finds nothing ends. Assumes nothing.
use mathlib.Core.Path.{◌≡◌, refl}
use Prim.Native.Nat.{ℕ}
use mathlib.Core.Bool.{Bool, true, false}
use Rattle.job.specs.declared.Kind.TheVariants.{TwoWay}
use Rattle.machine.specs.declared.Event.{Event}
use Rattle.machine.specs.Memory.{Memory}
use Rattle.machine.specs.Table.{first_row}
use Rattle.machine.specs.Notes.{Answer}
use Rattle.machine.specs.Effects.{is_stack}
use Rattle.machine.proofs.Turns.Locals.{Local}
use Rattle.machine.proofs.Turns.TwoWay.{On, Turn, turn}
use Rattle.machine.proofs.Turns.TwoWay.On.{at_v1, at_v2, at_v3, at_v4, at_v5, at_v6, at_v7, at_v8, at_w1, at_w2, at_w3, at_w4, at_w5, at_w6, at_w7, at_w8, at_w9, at_done, at_item, at_empty}
use Rattle.machine.proofs.Turns.TwoWay.Turn.{v1, v2_none, v2_some, v3_live, v3_dead, v4_links, v4_fails, v5_moves, v5_stays, v6_moves, v6_stays, v7_cuts, v7_stays, v8_moves, v8_stays, w1, w2_more, w2_empty, w2_last, w3_live, w3_dead, w4_clears, w4_fails, w5_cuts, w5_stays, w6_moves, w6_stays, w7_cuts, w7_stays, w8_moves, w8_stays, w9_moves, w9_stays}
use Rattle.theory.proofs.Phases.{Phase, Move}
use Rattle.theory.proofs.Phases.Phase.{going, in_round, linked, joined, done, got, bare}
use Rattle.theory.proofs.Phases.JoinEvent.{moved}
use Rattle.theory.proofs.Phases.Move.{quiet, begins, gives_up, links, ends_put, joins, ends_take, begins_bare}
use Rattle.theory.proofs.Listing.{initial, Listing}

abbrev pub phase : {l : Local} → On l → Phase
phase at_v1 = going true
phase at_v2 = going true
phase at_v3 = going true
phase at_v4 = going true
phase at_v5 = linked
phase at_v6 = going true
phase at_v7 = going true
phase at_v8 = going true
phase at_w1 = going false
phase at_w2 = going false
phase (at_w3 some) = in_round
phase (at_w4 some) = in_round
phase (at_w5 {t = t} some) = joined t
phase (at_w6 {t = t} some) = joined t
phase (at_w7 some) = in_round
phase at_w8 = in_round
phase (at_w9 some) = in_round
phase at_done = done
phase (at_item {t = t}) = got t
phase at_empty = bare

pub starts : (put : Bool) → (x : On (initial TwoWay put)) × (phase x ≡ going put)
unfolding initial first_row
starts true = (at_v1, refl)
starts false = (at_w1, refl)

pub moves : {o : ℕ} {m m' : Memory} {l l' : Local} {e : Event} {a : Answer} → Turn o m l m' l' e a → (x : On l) → (y : On l') × Move TwoWay (phase x) e a (phase y)
unfolding is_stack
moves v1 at_v1 = (at_v2, quiet tt)
moves (v2_none e) at_v2 = (at_v3, quiet tt)
moves (v2_some e) at_v2 = (at_v6, quiet tt)
moves (v3_live e) at_v3 = (at_v4, quiet tt)
moves (v3_dead e) at_v3 = (at_v7, quiet tt)
moves (v4_links e f) at_v4 = (at_v5, links)
moves v4_fails at_v4 = (at_v1, quiet tt)
moves (v5_moves e) at_v5 = (at_done, ends_put)
moves (v5_stays e) at_v5 = (at_done, ends_put)
moves (v6_moves e) at_v6 = (at_v1, quiet tt)
moves (v6_stays e) at_v6 = (at_v1, quiet tt)
moves (v7_cuts e) at_v7 = (at_v8, quiet tt)
moves v7_stays at_v7 = (at_v8, quiet tt)
moves (v8_moves e) at_v8 = (at_v1, quiet tt)
moves (v8_stays e) at_v8 = (at_v1, quiet tt)
moves w1 at_w1 = (at_w2, quiet tt)
moves (w2_more e) at_w2 = (at_w8, begins)
moves (w2_empty e z) at_w2 = (at_empty, begins_bare)
moves (w2_last e some) at_w2 = (at_w3 some, begins)
moves (w3_live e) (at_w3 some) = (at_w4 some, quiet tt)
moves (w3_dead e) (at_w3 some) = (at_w7 some, quiet tt)
moves (w4_clears e) (at_w4 some) = (at_w5 some, joins refl moved some)
moves (w4_fails e) (at_w4 some) = (at_w1, gives_up)
moves (w5_cuts e) (at_w5 some) = (at_w6 some, quiet tt)
moves w5_stays (at_w5 some) = (at_w6 some, quiet tt)
moves (w6_moves e) (at_w6 some) = (at_item, ends_take)
moves (w6_stays e) (at_w6 some) = (at_item, ends_take)
moves (w7_cuts e) (at_w7 some) = (at_w9 some, quiet tt)
moves w7_stays (at_w7 some) = (at_w9 some, quiet tt)
moves (w8_moves e) at_w8 = (at_w1, gives_up)
moves (w8_stays e) at_w8 = (at_w1, gives_up)
moves (w9_moves e) (at_w9 some) = (at_w1, gives_up)
moves (w9_stays e) (at_w9 some) = (at_w1, gives_up)

abbrev pub listing : Listing TwoWay
listing = record { On = On; phase = phase; Turn = Turn; starts = starts; turn = turn; moves = moves }
