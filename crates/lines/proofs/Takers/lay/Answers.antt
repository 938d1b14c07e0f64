-- `lines::Takers::lay` meets its contract. Assumes nothing.
use mathlib.Core.Path.{ap}
use Rattle.basics.specs.Text.{text}
use Rattle.rows.specs.Operations.{cells}
use Rattle.rows.specs.declared.OpColumn.TheVariants.{Taken}
use Rattle.text.proofs.Pages.{room_of, wrote_as}
use Rattle.lines.specs.Lines.{member}
use Rattle.lines.proofs.Pieces.{found_put, found_takers, found_empty}
use native.Mathlib.Omega.{arith}
use Rattle.lines.proofs.Takers.lay.Goals as goal

pub single_line-requires : goal.single_line-requires
unfolding text
single_line-requires c = room_of (found_put (cells c.args.self.now.ops.now Taken) c.args.self.now.count c.args.s.0 _ c.in-Put.is) c.requires.1

pub take_line-requires : goal.take_line-requires
unfolding member
take_line-requires c = (omega (arith, c.requires.0, ap member c.in-Takers.is), room_of (found_takers (cells c.args.self.now.ops.now Taken) c.args.self.now.count c.args.s.0 _ c.in-Takers.is) c.requires.1)

pub single_line-requires-in-Empty : goal.single_line-requires-in-Empty
unfolding text
single_line-requires-in-Empty c = room_of (found_empty (cells c.args.self.now.ops.now Taken) c.args.self.now.count c.args.s.0 _ c.in-Empty.is) c.requires.1

pub returns-in-Put : goal.returns-in-Put
unfolding text
returns-in-Put c = wrote_as (found_put (cells c.args.self.now.ops.now Taken) c.args.self.now.count c.args.s.0 _ c.in-Put.is) c.single_line.ensures

pub returns-in-Takers : goal.returns-in-Takers
returns-in-Takers c = wrote_as (found_takers (cells c.args.self.now.ops.now Taken) c.args.self.now.count c.args.s.0 _ c.in-Takers.is) c.take_line.ensures

pub returns-in-Empty : goal.returns-in-Empty
unfolding text
returns-in-Empty c = wrote_as (found_empty (cells c.args.self.now.ops.now Taken) c.args.self.now.count c.args.s.0 _ c.in-Empty.is) c.single_line-in-Empty.ensures
