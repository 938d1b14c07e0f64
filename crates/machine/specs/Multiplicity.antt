-- The two machines with multiplicity. Document 01, "The two machines": "Items are numbered by the put that brought them, so equal
-- values never clash. Contents start empty. A machine allows three lines". One definition serves both but for where a put adds.
-- A two-way linked stack is a stack.
use Rattle.std.specs.Prelude.{ℕ, List, [], ◌∷◌, ◌++◌}
use Rattle.std.proofs.Math.Option.{Option, none, some}
use Rattle.basics.specs.Choice.{pick, same}
use Rattle.job.specs.declared.Kind.{Kind}
use Rattle.job.specs.declared.Kind.TheVariants.{Queue, Stack, TwoWay}

-- the three lines: "one put", by its operation, which is its item; "one or more takes as a set", the item and its takers; "one
-- take answering empty", by its operation. "Puts and empty takes are always alone in their line."
pub data Line : Type 0 where
  put : ℕ → Line
  takes : ℕ → List ℕ → Line
  empty : ℕ → Line

-- "one put, which adds its item (queue: at the back, stack: on top)"
unfoldable pub add : Kind → ℕ → List ℕ → List ℕ
add Queue item contents = contents ++ (item ∷ [])
add Stack item contents = item ∷ contents
add TwoWay item contents = item ∷ contents

-- "one or more takes as a set, which all get the front or top item and remove it"
unfoldable pub remove : ℕ → List ℕ → List ℕ → Option (List ℕ)
remove item [] contents = none
remove item (taker ∷ takers) [] = none
remove item (taker ∷ takers) (front ∷ contents) = pick (same front item) (some contents) none

-- "one take answering empty, when the contents are empty"
unfoldable pub find_empty : List ℕ → Option (List ℕ)
find_empty [] = some []
find_empty (front ∷ contents) = none

-- the contents after one line, if the machine allows it: "A line is allowed if it is one of its machine's three for the contents
-- that the lines before it leave."
unfoldable pub apply : Kind → Line → List ℕ → Option (List ℕ)
apply object (put item) contents = some (add object item contents)
apply object (takes item takers) contents = remove item takers contents
apply object (empty taker) contents = find_empty contents

-- go on with what is there, if anything is
unfoldable pub then : Option (List ℕ) → (List ℕ → Option (List ℕ)) → Option (List ℕ)
then none f = none
then (some contents) f = f contents

-- the contents after some lines, if the machine allows each after all those before it
unfoldable pub play : Kind → List Line → List ℕ → Option (List ℕ)
play object [] contents = some contents
play object (line ∷ lines) contents = then (apply object line contents) (play object lines)
