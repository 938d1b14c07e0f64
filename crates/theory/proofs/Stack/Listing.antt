-- The listings of a stack for the general theory: the phase of each row, and the move that each turn is. Assumes nothing.
use mathlib.Core.Path.{◌≡◌, refl}
use Prim.Native.Nat.{ℕ}
use mathlib.Core.Bool.{Bool, true, false}
use Rattle.job.specs.declared.Kind.TheVariants.{Stack}
use Rattle.machine.specs.declared.Event.{Event}
use Rattle.machine.specs.Memory.{Memory}
use Rattle.machine.specs.Table.{first_row}
use Rattle.machine.specs.Notes.{Answer}
use Rattle.machine.specs.Effects.{is_stack}
use Rattle.machine.proofs.Turns.Locals.{Local}
use Rattle.machine.proofs.Turns.Stack.{On, Turn, turn}
use Rattle.machine.proofs.Turns.Stack.On.{at_p1, at_p2, at_p3, at_p4, at_r1, at_r2, at_r3, at_r4, at_r5, at_done, at_item, at_empty}
use Rattle.machine.proofs.Turns.Stack.Turn.{p1_none, p1_some, p2_clear, p2_raised, p3_pushes, p3_fails, p4_moves, p4_stays, r1_none, r1_some, r2_clear, r2_raised, r3, r4_moves, r4_stays, r5_moves, r5_stays}
use Rattle.theory.proofs.Phases.{Phase, Move}
use Rattle.theory.proofs.Phases.Phase.{going, in_round, joined, done, got, bare}
use Rattle.theory.proofs.Phases.JoinEvent.{raised}
use Rattle.theory.proofs.Phases.Move.{quiet, begins, gives_up, links_last, joins, ends_take, begins_bare}
use Rattle.theory.proofs.Listing.{initial, Listing}

abbrev pub phase : {l : Local} → On l → Phase
phase at_p1 = going true
phase at_p2 = going true
phase at_p3 = going true
phase at_p4 = going true
phase at_r1 = going false
phase (at_r2 some) = in_round
phase (at_r3 some) = in_round
phase (at_r4 {t = t} some) = joined t
phase (at_r5 some) = in_round
phase at_done = done
phase (at_item {t = t}) = got t
phase at_empty = bare

pub starts : (put : Bool) → (x : On (initial Stack put)) × (phase x ≡ going put)
unfolding initial first_row
starts true = (at_p1, refl)
starts false = (at_r1, refl)

pub moves : {o : ℕ} {m m' : Memory} {l l' : Local} {e : Event} {a : Answer} → Turn o m l m' l' e a → (x : On l) → (y : On l') × Move Stack (phase x) e a (phase y)
unfolding is_stack
moves (p1_none e) at_p1 = (at_p3, quiet tt)
moves (p1_some e) at_p1 = (at_p2, quiet tt)
moves (p2_clear e) at_p2 = (at_p3, quiet tt)
moves (p2_raised e) at_p2 = (at_p4, quiet tt)
moves (p3_pushes e) at_p3 = (at_done, links_last)
moves (p3_fails e) at_p3 = (at_p1, quiet tt)
moves (p4_moves e) at_p4 = (at_p1, quiet tt)
moves (p4_stays e) at_p4 = (at_p1, quiet tt)
moves (r1_none e) at_r1 = (at_empty, begins_bare)
moves (r1_some e) at_r1 = (at_r2 e, begins)
moves (r2_clear e) (at_r2 some) = (at_r3 some, quiet tt)
moves (r2_raised e) (at_r2 some) = (at_r5 some, quiet tt)
moves r3 (at_r3 some) = (at_r4 some, joins refl raised some)
moves (r4_moves e) (at_r4 some) = (at_item, ends_take)
moves (r4_stays e) (at_r4 some) = (at_item, ends_take)
moves (r5_moves e) (at_r5 some) = (at_r1, gives_up)
moves (r5_stays e) (at_r5 some) = (at_r1, gives_up)

abbrev pub listing : Listing Stack
listing = record { On = On; phase = phase; Turn = Turn; starts = starts; turn = turn; moves = moves }
