-- How one more step changes where the line of an item's takers stands: it stays, but where a step first moves to the item, or one more operation
-- joins them by a round. Code that keeps one cell an item follows this. Assumes nothing.
use mathlib.Core.Path.{◌≡◌, refl, sym, ap, subst, ◌∙◌}
use mathlib.Core.Logic.{◌≢◌, ◌⊎◌, inl, inr}
use Prim.Native.Nat.{ℕ, suc, max, ◌≤◌, ◌<◌}
use native.Mathlib.Omega.{arith}
use mathlib.Core.Bool.{true, false}
use Rattle.basics.specs.Choice.{less}
use Rattle.basics.proofs.Choice.{split, both, less_lt, less_le}
use Rattle.job.specs.declared.Kind.{Kind}
use Rattle.machine.specs.declared.Event.{Event}
use Rattle.machine.specs.declared.Event.TheVariants.{Quiet, Round, Linked, Moved, Late, Raised}
use Rattle.machine.specs.Notes.{Answer, Note}
use Rattle.machine.specs.Journal.{start, taken, moved_to, item_of, is_round}
use Rattle.machine.specs.Effects.{largest, takers, latest_start, takes_at, Rule, stands_by, rule}
use Rattle.machine.specs.Explained.{IsOperation}
use Rattle.machine.proofs.Searches.{largest_bounds, largest_attained}
use Rattle.machine.proofs.Stamps.{start_zero, first_move_zero, start_other, start_unless, taken_other, taken_unless, taken_new, first_move_unless, first_move_new, first_move_stays}
use Rattle.machine.proofs.Effected.{taker_in, taker_out}
use Rattle.machine.specs.Effects.Rule.{by_move, by_round}
use Rattle.theory.proofs.Phases.{Phase, JoinEvent, Move}
use Rattle.theory.proofs.Phases.JoinEvent.{moved, late, raised}
use Rattle.theory.proofs.Phases.Move.{quiet, begins, gives_up, links, links_last, ends_put, joins, joins_last, ends_take, finds_none, begins_bare}
use Rattle.theory.proofs.Course.{Course, PassesIn, ActsIn, passes_by, passes_event}
use Rattle.theory.proofs.Deeds.{Deeds, deeds, Going, Fresh}
use Rattle.theory.proofs.Deeds.Fresh.{silent, sounding}
use Rattle.theory.proofs.Life.{operation_some, acts_move, acts_fresh}

-- an event that says something for the record
abbrev pub Sounding : Event → Type 0
Sounding Quiet = ⊥
Sounding Round = Unit {0}
Sounding Linked = Unit {0}
Sounding (Moved n) = Unit {0}
Sounding (Late n) = Unit {0}
Sounding (Raised t) = Unit {0}

-- whoever says something has neither linked nor joined before
sounds_going : {e : Event} {d : Deeds} → Fresh d e → Sounding e → Going d
sounds_going (silent h) s = absurd s
sounds_going (sounding g) s = g

-- the rule of the objects at which an event can happen
abbrev RuleOf : Event → Rule → Type 0
RuleOf Quiet r = Unit {0}
RuleOf Round r = Unit {0}
RuleOf Linked r = Unit {0}
RuleOf (Moved n) r = r ≡ by_move
RuleOf (Late n) r = r ≡ by_move
RuleOf (Raised t) r = r ≡ by_round

joining_rule : {r : Rule} {e : Event} {n : ℕ} → JoinEvent r e n → RuleOf e r
joining_rule moved = refl
joining_rule late = refl
joining_rule raised = refl

move_rule : {kind : Kind} {p q : Phase} {e : Event} {a : Answer} → Move kind p e a q → RuleOf e (rule kind)
move_rule (quiet x) = tt
move_rule begins = tt
move_rule gives_up = tt
move_rule links = tt
move_rule links_last = tt
move_rule ends_put = tt
move_rule (joins s j n) = joining_rule j
move_rule (joins_last j) = joining_rule j
move_rule ends_take = tt
move_rule finds_none = tt
move_rule begins_bare = tt

-- no event moves to another item than its own
moved_elsewhere : (e : Event) (item : ℕ) → item ≢ 0 → item_of e ≢ item → moved_to e ≢ item
unfolding item_of moved_to
moved_elsewhere Quiet item some other q = some (sym q)
moved_elsewhere Round item some other q = some (sym q)
moved_elsewhere Linked item some other q = some (sym q)
moved_elsewhere (Moved n) item some other q = other q
moved_elsewhere (Late n) item some other q = some (sym q)
moved_elsewhere (Raised n) item some other q = some (sym q)

module _ (log : ℕ → Note) (count : ℕ) where
  -- the latest start of an item's takers is what bounds them and is one of them
  latest_start_is : (k item v : ℕ) → ((o : ℕ) → IsOperation count o → taken log k o ≡ item → start log k o ≤ v) → (v ≢ 0 → (o : ℕ) × IsOperation count o × (taken log k o ≡ item) × (start log k o ≡ v)) → latest_start log count k item ≡ v
  unfolding latest_start
  latest_start_is k item v bounds attained = go (split (largest (start log k) (takers log count k item)) 0) (split v 0)
    where
      top : ℕ
      top = largest (start log k) (takers log count k item)

      to_top : v ≢ 0 → v ≤ top
      to_top some =
          let (o, op, e, s) = attained some in
          subst (λ (x : ℕ). x ≤ top) s (largest_bounds (start log k) (takers log count k item) o (taker_in log count k o item op e))

      from_top : top ≢ 0 → top ≤ v
      from_top some =
          let (o, m, s) = largest_attained (start log k) (takers log count k item) some in
          subst (λ (x : ℕ). x ≤ v) s (bounds o (taker_out log count k o item m).0 (taker_out log count k o item m).1)

      go : (top ≡ 0) ⊎ (top ≢ 0) → (v ≡ 0) ⊎ (v ≢ 0) → top ≡ v
      go (inl a) (inl b) = a ∙ sym b
      go (inl a) (inr b) = let h : v ≤ top = to_top b in absurd (b (omega arith))
      go (inr a) (inl b) = let h : top ≤ v = from_top a in absurd (a (omega arith))
      go (inr a) (inr b) = let h : top ≤ v = from_top a in let g : v ≤ top = to_top b in omega arith

  -- where the takers of an item and their starts are the same, so is the latest start
  latest_start_kept : (k l item : ℕ) → ((o : ℕ) → IsOperation count o → taken log l o ≡ item → (taken log k o ≡ item) × (start log l o ≡ start log k o)) → ((o : ℕ) → IsOperation count o → taken log k o ≡ item → (taken log l o ≡ item) × (start log l o ≡ start log k o)) → latest_start log count l item ≡ latest_start log count k item
  unfolding latest_start
  latest_start_kept k l item back forth =
      latest_start_is l item (latest_start log count k item)
      (λ o op e.
      subst (λ (x : ℕ). x ≤ latest_start log count k item) (sym (back o op e).1)
      (largest_bounds (start log k) (takers log count k item) o (taker_in log count k o item op (back o op e).0)))
      (λ some.
      let (o, m, s) = largest_attained (start log k) (takers log count k item) some in
      let out = taker_out log count k o item m in
      (o, out.0, (forth o out.0 out.1).0, (forth o out.0 out.1).1 ∙ s))

  -- one more taker: the later of what it was and the taker's start
  latest_start_joined : (k l item q : ℕ) → IsOperation count q → taken log l q ≡ item → start log l q ≡ start log k q → ((o : ℕ) → IsOperation count o → o ≢ q → taken log l o ≡ taken log k o) → ((o : ℕ) → IsOperation count o → start log l o ≡ start log k o) → latest_start log count l item ≡ max (latest_start log count k item) (start log k q)
  unfolding latest_start
  latest_start_joined k l item q opq e same_start others starts =
      latest_start_is l item (max (latest_start log count k item) (start log k q))
      (λ o op took. bound o op took (split o q))
      (λ some. reach (both (less (start log k q) (latest_start log count k item))))
    where
      top : ℕ
      top = latest_start log count k item

      bound : (o : ℕ) → IsOperation count o → taken log l o ≡ item → (o ≡ q) ⊎ (o ≢ q) → start log l o ≤ max top (start log k q)
      bound o op took (inl same) =
          let s : start log l o ≡ start log k q = ap (start log l) same ∙ same_start in
          omega arith
      bound o op took (inr other) =
          let h : start log k o ≤ top = largest_bounds (start log k) (takers log count k item) o (taker_in log count k o item op (sym (others o op other) ∙ took)) in
          let s : start log l o ≡ start log k o = starts o op in
          omega arith

      still : (o : ℕ) → IsOperation count o → taken log k o ≡ item → (o ≡ q) ⊎ (o ≢ q) → taken log l o ≡ item
      still o op took (inl same) = ap (taken log l) same ∙ e
      still o op took (inr other) = others o op other ∙ took

      reach : (less (start log k q) top ≡ true) ⊎ (less (start log k q) top ≡ false) → (o : ℕ) × IsOperation count o × (taken log l o ≡ item) × (start log l o ≡ max top (start log k q))
      reach (inl lower) =
          let h : start log k q < top = less_lt lower in
          let some : top ≢ 0 = (λ z. omega arith) in
          let (o, m, s) = largest_attained (start log k) (takers log count k item) some in
          let out = taker_out log count k o item m in
          let now : start log l o ≡ start log k o = starts o out.0 in
          (o, out.0, still o out.0 out.1 (split o q), omega arith)
      reach (inr higher) =
          let h : top ≤ start log k q = less_le higher in
          (q, opq, e, omega arith)

  -- an operation's part in an item is as it was, or it has none before and after
  Unmoved : ℕ → ℕ → ℕ → Type 0
  Unmoved k item q = ((taken log (suc k) q ≡ taken log k q) × (start log (suc k) q ≡ start log k q)) ⊎ ((taken log (suc k) q ≢ item) × (taken log k q ≢ item))

  unmoved_back : (k item q : ℕ) → Unmoved k item q → taken log (suc k) q ≡ item → (taken log k q ≡ item) × (start log (suc k) q ≡ start log k q)
  unfolding Unmoved
  unmoved_back k item q (inl (t, s)) e = (sym t ∙ e, s)
  unmoved_back k item q (inr (n, m)) e = absurd (n e)

  unmoved_forth : (k item q : ℕ) → Unmoved k item q → taken log k q ≡ item → (taken log (suc k) q ≡ item) × (start log (suc k) q ≡ start log k q)
  unfolding Unmoved
  unmoved_forth k item q (inl (t, s)) e = (t ∙ e, s)
  unmoved_forth k item q (inr (n, m)) e = absurd (m e)

  -- another operation's part is as it was
  other_unmoved : (k item q : ℕ) → (log (suc k)).by ≢ q → Unmoved k item q
  unfolding Unmoved
  other_unmoved k item q other = inl (taken_other log k q other, start_other log k q other)

  -- by the rule: before the first step no line stands anywhere
  by_rule_zero : (r : Rule) (item : ℕ) → stands_by r log count 0 item ≡ 0
  by_rule_zero by_move item = first_move_zero log item
  by_rule_zero by_round item =
      latest_start_is 0 item 0 (λ o op e. let z : start log 0 o ≡ 0 = start_zero log o in omega arith) (λ some. absurd (some refl))

  -- where every operation's part in an item is as it was, and no step moves to it, its line stands where it stood
  by_rule_unmoved : (r : Rule) (k item : ℕ) → ((q : ℕ) → IsOperation count q → Unmoved k item q) → moved_to (log (suc k)).event ≢ item → stands_by r log count (suc k) item ≡ stands_by r log count k item
  by_rule_unmoved by_move k item parts away = first_move_unless log item k away
  by_rule_unmoved by_round k item parts away =
      latest_start_kept k (suc k) item
      (λ q op. unmoved_back k item q (parts q op))
      (λ q op. unmoved_forth k item q (parts q op))

  module _ (kind : Kind) where
    -- the line of an object's takers stands by its rule
    pub stands_zero : (item : ℕ) → takes_at kind log count 0 item ≡ 0
    unfolding takes_at
    stands_zero item = by_rule_zero (rule kind) item

    stands_unmoved : (k item : ℕ) → ((q : ℕ) → IsOperation count q → Unmoved k item q) → moved_to (log (suc k)).event ≢ item → takes_at kind log count (suc k) item ≡ takes_at kind log count k item
    unfolding takes_at
    stands_unmoved k item parts away = by_rule_unmoved (rule kind) k item parts away

    stands_is : {r : Rule} → rule kind ≡ r → (k item : ℕ) → takes_at kind log count k item ≡ stands_by r log count k item
    unfolding takes_at
    stands_is e k item = ap (λ r. stands_by r log count k item) e

module _ {kind : Kind} (c : Course kind) where
  -- where an item's takers' line stands
  abbrev line : ℕ → ℕ → ℕ
  line k item = takes_at kind c.log c.count k item

  pub stands_idle : (k item : ℕ) → PassesIn c k → item ≢ 0 → line (suc k) item ≡ line k item
  unfolding moved_to
  stands_idle k item idles some =
      stands_unmoved c.log c.count kind k item
      (λ q op. other_unmoved c.log c.count k item q (λ e. operation_some op (sym e ∙ passes_by idles)))
      (λ q. some (sym q ∙ ap moved_to (passes_event idles)))

  module _ (k o : ℕ) (acts : ActsIn c k o) where
    -- the step's event, as a value to go by
    abbrev heard : Event
    heard = (c.log (suc k)).event

    pub before_sound : Sounding heard → Going (deeds c.log k o)
    before_sound s = sounds_going (acts_fresh c k o acts) s

    rule_of_event : RuleOf heard (rule kind)
    rule_of_event = move_rule (acts_move c k o acts).move

    -- the item that the step's event names is another one
    pub record Elsewhere (item : ℕ) : Type 0 where
      pub some : item ≢ 0
      pub other : item_of heard ≢ item

    joined_elsewhere : (item : ℕ) → Elsewhere item → Going (deeds c.log k o) → (item_of heard ≡ 0) ⊎ (item_of heard ≢ 0) → Unmoved c.log c.count k item o
    unfolding Unmoved deeds
    joined_elsewhere item w g (inl none) =
        inr ((λ t. w.some (sym t ∙ taken_unless c.log k o none ∙ g.not_taken)), (λ t. w.some (sym t ∙ g.not_taken)))
    joined_elsewhere item w g (inr some) =
        inr
        ((λ t. w.other (sym (taken_new c.log k o acts.by some g.no_join) ∙ t)), (λ t. w.some (sym t ∙ g.not_taken)))

    own_unmoved : (item : ℕ) → Elsewhere item → (e : Event) → heard ≡ e → Unmoved c.log c.count k item o
    unfolding Unmoved item_of is_round deeds
    own_unmoved item w Quiet e = inl (taken_unless c.log k o (ap item_of e), start_unless c.log k o (ap is_round e))
    own_unmoved item w Linked e = inl (taken_unless c.log k o (ap item_of e), start_unless c.log k o (ap is_round e))
    own_unmoved item w Round e = joined_elsewhere item w (before_sound (subst Sounding (sym e) tt)) (split (item_of heard) 0)
    own_unmoved item w (Moved n) e = joined_elsewhere item w (before_sound (subst Sounding (sym e) tt)) (split (item_of heard) 0)
    own_unmoved item w (Late n) e = joined_elsewhere item w (before_sound (subst Sounding (sym e) tt)) (split (item_of heard) 0)
    own_unmoved item w (Raised n) e = joined_elsewhere item w (before_sound (subst Sounding (sym e) tt)) (split (item_of heard) 0)

    part_unmoved : (item : ℕ) → Elsewhere item → (q : ℕ) → (q ≡ o) ⊎ (q ≢ o) → Unmoved c.log c.count k item q
    part_unmoved item w q (inl e) = subst (Unmoved c.log c.count k item) (sym e) (own_unmoved item w heard refl)
    part_unmoved item w q (inr n) = other_unmoved c.log c.count k item q (λ a. n (sym a ∙ acts.by))

    -- another item's line stands where it stood
    pub stands_elsewhere : (item : ℕ) → Elsewhere item → line (suc k) item ≡ line k item
    stands_elsewhere item w =
        stands_unmoved c.log c.count kind k item (λ q op. part_unmoved item w q (split q o))
        (moved_elsewhere heard item w.some w.other)

    -- where a step moves to an item: its line stands at the first such step
    module _ (n : ℕ) (e : heard ≡ Moved n) where
      at_moves : (k : ℕ) → line k n ≡ stands_by by_move c.log c.count k n
      at_moves k = stands_is c.log c.count kind (subst (λ x. RuleOf x (rule kind)) e rule_of_event) k n

      pub stands_moved_first : line k n ≡ 0 → line (suc k) n ≡ suc k
      stands_moved_first z = at_moves (suc k) ∙ first_move_new c.log n k e (sym (at_moves k) ∙ z)

      pub stands_moved_again : line k n ≢ 0 → line (suc k) n ≡ line k n
      stands_moved_again found = at_moves (suc k) ∙ first_move_stays c.log n k (suc k) (omega arith) (λ z. found (at_moves k ∙ z)) ∙ sym (at_moves k)

    -- an item that a take found moved: its line stands where it stood
    pub stands_late : (n : ℕ) → heard ≡ Late n → n ≢ 0 → line (suc k) n ≡ line k n
    unfolding moved_to
    stands_late n e some =
        let is : rule kind ≡ by_move = subst (λ x. RuleOf x (rule kind)) e rule_of_event in
        stands_is c.log c.count kind is (suc k) n
        ∙ first_move_unless c.log n k (λ q. some (sym q ∙ ap moved_to e))
        ∙ sym (stands_is c.log c.count kind is k n)

    -- the item whose mark is raised: one more taker
    pub stands_raised : (t : ℕ) → heard ≡ Raised t → t ≢ 0 → line (suc k) t ≡ max (line k t) (start c.log k o)
    unfolding item_of is_round deeds
    stands_raised t e some =
        let is : rule kind ≡ by_round = subst (λ x. RuleOf x (rule kind)) e rule_of_event in
        let before : Going (deeds c.log k o) = before_sound (subst Sounding (sym e) tt) in
        let names : item_of heard ≡ t = ap item_of e in
        let starts : (q : ℕ) → start c.log (suc k) q ≡ start c.log k q = (λ q. start_unless c.log k q (ap is_round e)) in
        stands_is c.log c.count kind is (suc k) t
        ∙ latest_start_joined c.log c.count k (suc k) t o acts.operation
        (taken_new c.log k o acts.by (λ z. some (sym names ∙ z)) before.no_join ∙ names)
        (starts o)
        (λ q op other. taken_other c.log k q (λ a. other (sym a ∙ acts.by)))
        (λ q op. starts q)
        ∙ ap (λ x. max x (start c.log k o)) (sym (stands_is c.log c.count kind is k t))
