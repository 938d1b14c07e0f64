-- What is known of an operation by its row on a two-way linked stack: that its node is linked, or its upper; that its node is dead; that its last W2
-- is before the first W4 on its node; or that its last W2 ended it. Nothing known is lost by a step of another. Assumes nothing.
use mathlib.Core.Path.{◌≡◌, refl, sym, ◌∙◌}
use mathlib.Core.Logic.{◌≢◌}
use Prim.Native.Nat.{ℕ, ◌<◌}
use mathlib.Core.Bool.{true, false}
use native.Mathlib.Omega.{arith}
use Rattle.basics.proofs.Maps.{upd_here}
use Rattle.machine.specs.declared.Row.{Row}
use Rattle.machine.specs.declared.Row.TheVariants.{V1, V2, V3, V4, V5, V6, V7, V8, W1, W2, W3, W4, W5, W6, W7, W8, W9, Done, ItemT, Empty}
use Rattle.machine.specs.declared.Event.{Event}
use Rattle.machine.specs.Memory.{Memory, with_mark, with_upper}
use Rattle.machine.specs.Notes.{Answer, is_answer}
use Rattle.machine.specs.Journal.{is_round}
use Rattle.machine.proofs.Turns.Locals.{Local, at_row}
use Rattle.machine.proofs.Turns.TwoWay.{On, Turn}
use Rattle.machine.proofs.Turns.TwoWay.On.{at_w6}
use Rattle.machine.proofs.Turns.TwoWay.Turn.{v2_none, v2_some, v3_live, v3_dead, v4_links, v4_fails, v5_moves, v5_stays, v6_moves, v6_stays, v7_cuts, v7_stays, v8_moves, v8_stays, w2_more, w2_empty, w2_last, w3_live, w3_dead, w4_clears, w4_fails, w5_cuts, w5_stays, w6_moves, w6_stays, w7_cuts, w7_stays, w8_moves, w8_stays, w9_moves, w9_stays}
use Rattle.theory.proofs.Nodes.{IsLinked}

-- a last W2 is before the first W4 on a node
abbrev pub Before : ℕ → ℕ → Type 0
Before start killed = killed ≢ 0 → start < killed

-- by the steps that linked each node and that cleared its flag first, the flags, and the operation's last W2 and end
pub data Knows (born killed mark : ℕ → ℕ) (start last : ℕ) : Local → Type 0 where
  v1 : {h t n : ℕ} → Knows born killed mark start last (at_row V1 h t n)
  -- the node is linked, or the sentinel
  v2 : {h t n : ℕ} → IsLinked born t → Knows born killed mark start last (at_row V2 h t n)
  v3 : {h t n : ℕ} → IsLinked born t → Knows born killed mark start last (at_row V3 h t n)
  v4 : {h t n : ℕ} → IsLinked born t → Knows born killed mark start last (at_row V4 h t n)
  v5 : {h t n : ℕ} → Knows born killed mark start last (at_row V5 h t n)
  -- the upper is linked
  v6 : {h t n : ℕ} → IsLinked born n → Knows born killed mark start last (at_row V6 h t n)
  -- the node is dead
  v7 : {h t n : ℕ} → mark t ≢ 0 → Knows born killed mark start last (at_row V7 h t n)
  v8 : {h t n : ℕ} → mark t ≢ 0 → Knows born killed mark start last (at_row V8 h t n)
  w1 : {h t n : ℕ} → Knows born killed mark start last (at_row W1 h t n)
  w2 : {h t n : ℕ} → IsLinked born t → Knows born killed mark start last (at_row W2 h t n)
  w3 : {h t n : ℕ} → IsLinked born t → Knows born killed mark start last (at_row W3 h t n)
  -- the flag was read live after the last W2
  w4 : {h t n : ℕ} → IsLinked born t → Before start (killed t) → Knows born killed mark start last (at_row W4 h t n)
  -- and is cleared since
  w5 : {h t n : ℕ} → Before start (killed t) → mark t ≢ 0 → Knows born killed mark start last (at_row W5 h t n)
  w6 : {h t n : ℕ} → Before start (killed t) → mark t ≢ 0 → Knows born killed mark start last (at_row W6 h t n)
  w7 : {h t n : ℕ} → mark t ≢ 0 → Knows born killed mark start last (at_row W7 h t n)
  w8 : {h t n : ℕ} → IsLinked born n → Knows born killed mark start last (at_row W8 h t n)
  w9 : {h t n : ℕ} → mark t ≢ 0 → Knows born killed mark start last (at_row W9 h t n)
  done : {h t n : ℕ} → Knows born killed mark start last (at_row Done h t n)
  item : {h t n : ℕ} → Before start (killed t) → t ≢ 0 → Knows born killed mark start last (at_row ItemT h t n)
  -- the last W2 ended it
  empty : {h t n : ℕ} → last ≢ 0 → start ≡ last → Knows born killed mark start last (at_row Empty h t n)

-- a row that reads the lower of its node: V7 and its like, V8 and its like
pub data ReadsLower : Row → Type 0 where
  in_v7 : ReadsLower V7
  in_v8 : ReadsLower V8
  in_w5 : ReadsLower W5
  in_w6 : ReadsLower W6
  in_w7 : ReadsLower W7
  in_w9 : ReadsLower W9

-- does so of a dead node
pub reads_of_dead : {born killed mark : ℕ → ℕ} {start last : ℕ} {l : Local} → Knows born killed mark start last l → ReadsLower l.row → mark l.registers.t ≢ 0
reads_of_dead (v7 x) r = x
reads_of_dead (v8 x) r = x
reads_of_dead (w5 b x) r = x
reads_of_dead (w6 b x) r = x
reads_of_dead (w7 x) r = x
reads_of_dead (w9 x) r = x
reads_of_dead knows r = elim r [ ]

-- a node stays linked, a flag stays cleared and the first W4 stays where it is, so what is known stays known
pub knows_kept : {born born' killed killed' mark mark' : ℕ → ℕ} {start last last' : ℕ} {l : Local} → ((t : ℕ) → IsLinked born t → IsLinked born' t) → ((t : ℕ) → t ≢ 0 → Before start (killed t) → Before start (killed' t)) → ((t : ℕ) → mark t ≢ 0 → mark' t ≢ 0) → ((t : ℕ) → mark t ≢ 0 → t ≢ 0) → (last ≢ 0 → last' ≡ last) → On l → Knows born killed mark start last l → Knows born' killed' mark' start last' l
knows_kept links later stays some ended on v1 = v1
knows_kept links later stays some ended on (v2 x) = v2 (links _ x)
knows_kept links later stays some ended on (v3 x) = v3 (links _ x)
knows_kept links later stays some ended on (v4 x) = v4 (links _ x)
knows_kept links later stays some ended on v5 = v5
knows_kept links later stays some ended on (v6 x) = v6 (links _ x)
knows_kept links later stays some ended on (v7 x) = v7 (stays _ x)
knows_kept links later stays some ended on (v8 x) = v8 (stays _ x)
knows_kept links later stays some ended on w1 = w1
knows_kept links later stays some ended on (w2 x) = w2 (links _ x)
knows_kept links later stays some ended on (w3 x) = w3 (links _ x)
knows_kept links later stays some ended (On.at_w4 node) (w4 x b) = w4 (links _ x) (later _ node b)
knows_kept links later stays some ended on (w5 b x) = w5 (later _ (some _ x) b) (stays _ x)
knows_kept links later stays some ended on (w6 b x) = w6 (later _ (some _ x) b) (stays _ x)
knows_kept links later stays some ended on (w7 x) = w7 (stays _ x)
knows_kept links later stays some ended on (w8 x) = w8 (links _ x)
knows_kept links later stays some ended on (w9 x) = w9 (stays _ x)
knows_kept links later stays some ended on done = done
knows_kept links later stays some ended on (item b node) = item (later _ node b) node
knows_kept links later stays some ended on (empty n x) = empty (λ z. n (sym (ended n) ∙ z)) (x ∙ sym (ended n))

module _ {born killed mark : ℕ → ℕ} {start last h t n : ℕ} where
  linked_at_v2 : Knows born killed mark start last (at_row V2 h t n) → IsLinked born t
  linked_at_v2 (v2 x) = x

  linked_at_v3 : Knows born killed mark start last (at_row V3 h t n) → IsLinked born t
  linked_at_v3 (v3 x) = x

  dead_at_v7 : Knows born killed mark start last (at_row V7 h t n) → mark t ≢ 0
  dead_at_v7 (v7 x) = x

  linked_at_w3 : Knows born killed mark start last (at_row W3 h t n) → IsLinked born t
  linked_at_w3 (w3 x) = x

  read_live : Knows born killed mark start last (at_row W4 h t n) → Before start (killed t)
  read_live (w4 x b) = b

  cleared_at_w5 : Knows born killed mark start last (at_row W5 h t n) → Before start (killed t) × (mark t ≢ 0)
  cleared_at_w5 (w5 b x) = (b, x)

  cleared_at_w6 : Knows born killed mark start last (at_row W6 h t n) → Before start (killed t)
  cleared_at_w6 (w6 b x) = b

  dead_at_w7 : Knows born killed mark start last (at_row W7 h t n) → mark t ≢ 0
  dead_at_w7 (w7 x) = x

  linked_at_w2 : Knows born killed mark start last (at_row W2 h t n) → IsLinked born t
  linked_at_w2 (w2 x) = x

-- what an operation finds at its step: Top and every upper are linked, and a node on which a W4 was made is dead
pub record Finds (born killed : ℕ → ℕ) (m m' : Memory) : Type 0 where
  pub top_linked : IsLinked born m.top
  pub upper_linked : (i : ℕ) → IsLinked born (m.upper i)
  pub killed_dead : (t : ℕ) → t ≢ 0 → killed t ≢ 0 → m'.mark t ≢ 0

-- the actor: what it knew, after its last W2 or before it, and the step, with what the step tells, is what is known at the row that it reaches
pub own_knows : {o : ℕ} {m m' : Memory} {l l' : Local} {e : Event} {a : Answer} {born killed killed₀ mark₀ : ℕ → ℕ} {start last start₀ last₀ : ℕ} → On l → Finds born killed m m' → Knows born killed₀ mark₀ start₀ last₀ l → (is_round e ≡ false → Knows born killed m'.mark start last l) → (is_round e ≡ true → is_answer a ≡ true → (last ≢ 0) × (start ≡ last)) → Turn o m l m' l' e a → Knows born killed m'.mark start last l'
unfolding is_round is_answer with_mark with_upper
own_knows on f old was ends Turn.v1 = v2 f.top_linked
own_knows on f old was ends (v2_none x) = v3 (linked_at_v2 old)
own_knows on f old was ends (v2_some x) = v6 (f.upper_linked _)
own_knows on f old was ends (v3_live x) = v4 (linked_at_v3 old)
own_knows on f old was ends (v3_dead x) = v7 x
own_knows on f old was ends (v4_links x y) = v5
own_knows on f old was ends v4_fails = v1
own_knows on f old was ends (v5_moves x) = done
own_knows on f old was ends (v5_stays x) = done
own_knows on f old was ends (v6_moves x) = v1
own_knows on f old was ends (v6_stays x) = v1
own_knows on f old was ends (v7_cuts x) = v8 (dead_at_v7 (was refl))
own_knows on f old was ends v7_stays = v8 (dead_at_v7 (was refl))
own_knows on f old was ends (v8_moves x) = v1
own_knows on f old was ends (v8_stays x) = v1
own_knows on f old was ends Turn.w1 = w2 f.top_linked
own_knows on f old was ends (w2_more x) = w8 (f.upper_linked _)
own_knows on f old was ends (w2_empty x z) = empty (ends refl refl).0 (ends refl refl).1
own_knows on f old was ends (w2_last x some) = w3 (linked_at_w2 old)
own_knows (On.at_w3 some) f old was ends (w3_live x) = w4 (linked_at_w3 old) (λ n. absurd (f.killed_dead _ some n x))
own_knows on f old was ends (w3_dead x) = w7 x
own_knows {m = m} on f old was ends (w4_clears {t = t} x) = w5 (read_live (was refl)) (λ z. let one : ◌≡◌ {A = ℕ} 1 0 = sym (upd_here m.mark t 1) ∙ z in omega arith)
own_knows on f old was ends (w4_fails x) = w1
own_knows on f old was ends (w5_cuts x) = w6 (cleared_at_w5 (was refl)).0 (cleared_at_w5 (was refl)).1
own_knows on f old was ends w5_stays = w6 (cleared_at_w5 (was refl)).0 (cleared_at_w5 (was refl)).1
own_knows (at_w6 some) f old was ends (w6_moves x) = item (cleared_at_w6 (was refl)) some
own_knows (at_w6 some) f old was ends (w6_stays x) = item (cleared_at_w6 (was refl)) some
own_knows on f old was ends (w7_cuts x) = w9 (dead_at_w7 (was refl))
own_knows on f old was ends w7_stays = w9 (dead_at_w7 (was refl))
own_knows on f old was ends (w8_moves x) = w1
own_knows on f old was ends (w8_stays x) = w1
own_knows on f old was ends (w9_moves x) = w1
own_knows on f old was ends (w9_stays x) = w1
