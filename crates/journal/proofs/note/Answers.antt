-- `journal::note` meets its contract: by the event, from what its store did. Assumes nothing.
use mathlib.Core.Path.{subst}
use Rattle.machine.specs.Journal.{item_of}
use Rattle.rows.specs.Operations.{HasOps}
use Rattle.journal.specs.Stored.{noted}
use Rattle.journal.proofs.note.Goals as goal

pub note_move-requires : goal.note_move-requires
unfolding item_of
note_move-requires c = (c.requires.own_row, subst (λ e. HasOps (item_of e) c.args.ops.now) c.in-Moved.is c.requires.item_row)

pub note_raise-requires : goal.note_raise-requires
unfolding item_of
note_raise-requires c = (c.requires.own_row, subst (λ e. HasOps (item_of e) c.args.ops.now) c.in-Raised.is c.requires.item_row)

pub returns-in-Quiet : goal.returns-in-Quiet
unfolding noted
returns-in-Quiet c = rw c.in-Quiet.is

pub returns-in-Round : goal.returns-in-Round
unfolding noted
returns-in-Round c = rw c.in-Round.is c.store.ensures.columns

pub returns-in-Linked : goal.returns-in-Linked
unfolding noted
returns-in-Linked c = rw c.in-Linked.is c.store-in-Linked.ensures.columns

pub returns-in-Moved : goal.returns-in-Moved
unfolding noted
returns-in-Moved c = rw c.in-Moved.is c.note_move.ensures

pub returns-in-Late : goal.returns-in-Late
unfolding noted
returns-in-Late c = rw c.in-Late.is c.store-in-Late.ensures.columns

pub returns-in-Raised : goal.returns-in-Raised
unfolding noted
returns-in-Raised c = rw c.in-Raised.is
    (rw (← c.cell.ensures) c.note_raise.ensures)
