-- The listings of a queue for the general theory: the phase of each row, and the move that each turn is. Assumes nothing.
use mathlib.Core.Path.{◌≡◌, refl}
use Prim.Native.Nat.{ℕ}
use mathlib.Core.Bool.{Bool, true, false}
use Rattle.job.specs.declared.Kind.TheVariants.{Queue}
use Rattle.machine.specs.declared.Event.{Event}
use Rattle.machine.specs.Memory.{Memory}
use Rattle.machine.specs.Table.{first_row}
use Rattle.machine.specs.Notes.{Answer}
use Rattle.machine.proofs.Turns.Locals.{Local}
use Rattle.machine.proofs.Turns.Queue.{On, Turn, turn}
use Rattle.machine.proofs.Turns.Queue.On.{at_q1, at_q2, at_q3, at_q4, at_q5, at_t1, at_t2, at_t3, at_t4, at_t5, at_done, at_item, at_empty}
use Rattle.machine.proofs.Turns.Queue.Turn.{q1, q2_last, q2_more, q3_links, q3_fails, q4_moves, q4_stays, q5_moves, q5_stays, t1, t2, t3_empty, t3_helps, t3_goes, t4_moves, t4_stays, t5_moves, t5_late}
use Rattle.theory.proofs.Phases.{Phase, Move}
use Rattle.theory.proofs.Phases.Phase.{going, in_round, linked, done, got, bare}
use Rattle.theory.proofs.Phases.JoinEvent.{moved, late}
use Rattle.theory.proofs.Phases.Move.{quiet, begins, gives_up, links, ends_put, joins_last, finds_none}
use Rattle.theory.proofs.Listing.{initial, Listing}

abbrev pub phase : {l : Local} → On l → Phase
phase at_q1 = going true
phase at_q2 = going true
phase at_q3 = going true
phase at_q4 = linked
phase at_q5 = going true
phase at_t1 = going false
phase at_t2 = in_round
phase at_t3 = in_round
phase at_t4 = in_round
phase at_t5 = in_round
phase at_done = done
phase (at_item {n = n}) = got n
phase at_empty = bare

pub starts : (put : Bool) → (x : On (initial Queue put)) × (phase x ≡ going put)
unfolding initial first_row
starts true = (at_q1, refl)
starts false = (at_t1, refl)

pub moves : {o : ℕ} {m m' : Memory} {l l' : Local} {e : Event} {a : Answer} → Turn o m l m' l' e a → (x : On l) → (y : On l') × Move Queue (phase x) e a (phase y)
moves q1 at_q1 = (at_q2, quiet tt)
moves (q2_last e) at_q2 = (at_q3, quiet tt)
moves (q2_more e) at_q2 = (at_q5, quiet tt)
moves (q3_links e) at_q3 = (at_q4, links)
moves (q3_fails e) at_q3 = (at_q1, quiet tt)
moves (q4_moves e) at_q4 = (at_done, ends_put)
moves (q4_stays e) at_q4 = (at_done, ends_put)
moves (q5_moves e) at_q5 = (at_q1, quiet tt)
moves (q5_stays e) at_q5 = (at_q1, quiet tt)
moves t1 at_t1 = (at_t2, begins)
moves t2 at_t2 = (at_t3, quiet tt)
moves (t3_empty e z) at_t3 = (at_empty, finds_none)
moves (t3_helps e z) at_t3 = (at_t4, quiet tt)
moves (t3_goes e) at_t3 = (at_t5, quiet tt)
moves (t4_moves e) at_t4 = (at_t1, gives_up)
moves (t4_stays e) at_t4 = (at_t1, gives_up)
moves (t5_moves e) at_t5 = (at_item, joins_last moved)
moves (t5_late e) at_t5 = (at_item, joins_last late)

abbrev pub listing : Listing Queue
listing = record { On = On; phase = phase; Turn = Turn; starts = starts; turn = turn; moves = moves }
