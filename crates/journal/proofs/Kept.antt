-- The rows of k steps, with the stores of step k + 1, are the rows of k + 1 steps, column by column. Assumes nothing.
use mathlib.Core.Path.{◌≡◌, refl, sym, ap, ap₂, subst, ◌∙◌}
use mathlib.Core.Logic.{◌≢◌, ◌⊎◌, inl, inr}
use Prim.Native.Nat.{ℕ, suc, max}
use native.Mathlib.Omega.{arith}
use mathlib.Core.Bool.{Bool, true, false}
use Rattle.basics.specs.Choice.{pick, same}
use Rattle.basics.specs.Maps.{upd}
use Rattle.basics.proofs.Choice.{split, pick_then, pick_else, pick_elim, same_equal, equal_same, same_unequal, unequal_same}
use Rattle.basics.proofs.Maps.{upd_elim, upd_id}
use Rattle.rows.specs.Rows.{stored_in}
use Rattle.rows.specs.declared.OpColumn.{OpColumn}
use Rattle.rows.specs.Operations.{Cells, stored, dropped_mark}
use Rattle.rows.specs.declared.OpColumn.TheVariants.{First, Last, Start, Link, Taken, Stands}
use Rattle.rows.proofs.Operations.{by_column}
use Rattle.job.specs.Job.{Job}
use Rattle.machine.specs.declared.Event.{Event}
use Rattle.machine.specs.declared.Event.TheVariants.{Quiet, Round, Linked, Moved, Late, Raised}
use Rattle.machine.specs.Notes.{note, is_answer}
use Rattle.machine.specs.Journal.{item_of, is_round, is_linked, first, last, start, link, taken}
use Rattle.machine.specs.Drops.{dropped, drop}
use Rattle.machine.specs.Effects.{takes_at}
use Rattle.machine.specs.Explained.{IsOperation}
use Rattle.machine.proofs.Stamps.{first_other, first_new, first_stays, last_other, last_unless, last_new, start_other, start_unless, start_new, link_other, link_unless, link_new, taken_other, taken_unless, taken_new, drop_other, drop_new}
use Rattle.theory.proofs.Course.{PassesIn, ActsIn, passes_by}
use Rattle.theory.proofs.Deeds.{Going, deeds}
use Rattle.theory.proofs.Life.{operation_some, acts_new}
use Rattle.theory.proofs.Operations.{course}
use Rattle.theory.proofs.Operations.Drops.{dropped_once, actor_drops_none, actor_undropped}
use Rattle.theory.proofs.TakesAt.{Sounding, before_sound, stands_idle, stands_elsewhere, stands_moved_first, stands_moved_again, stands_late, stands_raised}
use Rattle.journal.specs.Stored.{earlier, entered, noted, closed}
use Rattle.journal.specs.Journal.{ending, held, Agrees}

module _ (j : Job) where
  -- a column after a store is that of k steps if the value stored is, and if every other row's was
  column_stored : (k : ℕ) (c : Cells) (f : OpColumn) (o v q : ℕ) → (q ≡ o → v ≡ held j k f o) → (q ≢ o → c f q ≡ held j k f q) → upd (c f) o v q ≡ held j k f q
  column_stored k c f o v q own others =
      upd_elim (λ x. x ≡ held j k f q) (c f) o v q (λ here. own here ∙ ap (held j k f) (sym here)) others

  -- the end of an operation that a step does not drop
  ending_kept : (k o : ℕ) → dropped j (suc k) ≢ o → last (note j) (suc k) o ≡ last (note j) k o → ending j (suc k) o ≡ ending j k o
  ending_kept k o n l = ap₂ (λ x y. pick (same x 0) y dropped_mark) (drop_other j o k n) l

  -- a step that nobody makes
  module _ (k : ℕ) (c : Cells) (nobody : PassesIn (course j) k) (a : Agrees j k c) where
    stranger : {o : ℕ} → IsOperation j.count o → (note j (suc k)).by ≢ o
    stranger op e = operation_some op (sym e ∙ passes_by nobody)

    first_passes : (o : ℕ) → IsOperation j.count o → c First o ≡ first (note j) (suc k) o
    first_passes o op = a First o op ∙ sym (first_other (note j) k o (stranger op))

    last_passes : (o : ℕ) → IsOperation j.count o → dropped j (suc k) ≢ o → c Last o ≡ ending j (suc k) o
    last_passes o op n = a Last o op ∙ sym (ending_kept k o n (last_other (note j) k o (stranger op)))

    start_passes : (o : ℕ) → IsOperation j.count o → c Start o ≡ start (note j) (suc k) o
    start_passes o op = a Start o op ∙ sym (start_other (note j) k o (stranger op))

    link_passes : (o : ℕ) → IsOperation j.count o → c Link o ≡ link (note j) (suc k) o
    link_passes o op = a Link o op ∙ sym (link_other (note j) k o (stranger op))

    taken_passes : (o : ℕ) → IsOperation j.count o → c Taken o ≡ taken (note j) (suc k) o
    taken_passes o op = a Taken o op ∙ sym (taken_other (note j) k o (stranger op))

    stands_passes : (o : ℕ) → IsOperation j.count o → c Stands o ≡ takes_at j.object (note j) j.count (suc k) o
    stands_passes o op = a Stands o op ∙ sym (stands_idle (course j) k o nobody (operation_some op))

    -- leaves all of it if it drops none
    pub idle_keeps : dropped j (suc k) ≡ 0 → Agrees j (suc k) c
    idle_keeps none =
        by_column (λ f. (o : ℕ) → IsOperation j.count o → c f o ≡ held j (suc k) f o)
        first_passes (λ o op. last_passes o op (λ e. operation_some op (sym e ∙ none))) start_passes link_passes taken_passes stands_passes

    -- and all but the end of what it drops
    dropped_stored : (o : ℕ) → dropped j (suc k) ≡ o → (q : ℕ) → IsOperation j.count q → upd (c Last) o dropped_mark q ≡ ending j (suc k) q
    dropped_stored o d q op =
        upd_elim (λ x. x ≡ ending j (suc k) q) (c Last) o dropped_mark q
        (λ here.
        let its_own : dropped j (suc k) ≡ q = d ∙ sym here in
        let now : drop j (suc k) q ≡ suc k = drop_new j q k its_own (dropped_once j k q (operation_some op) its_own) in
        sym (pick_else _ _ (unequal_same (λ z. let x : suc k ≡ 0 = sym now ∙ z in omega arith))))
        (λ there. last_passes q op (λ e. there (sym e ∙ d)))

    pub drop_keeps : (o : ℕ) → dropped j (suc k) ≡ o → Agrees j (suc k) (stored Last o dropped_mark c)
    unfolding stored_in pick same
    drop_keeps o d =
        by_column (λ f. (q : ℕ) → IsOperation j.count q → stored Last o dropped_mark c f q ≡ held j (suc k) f q)
        first_passes (dropped_stored o d) start_passes link_passes taken_passes stands_passes

  module _ (k o : ℕ) (acts : ActsIn (course j) k o) (c : Cells) (a : Agrees j k c) where
    abbrev heard : Event
    heard = (note j (suc k)).event

    other : {q : ℕ} → q ≢ o → (note j (suc k)).by ≢ q
    other n e = n (sym e ∙ acts.by)

    -- a map that a step does not touch
    start_kept : is_round heard ≡ false → (q : ℕ) → IsOperation j.count q → c Start q ≡ start (note j) (suc k) q
    start_kept e q op = a Start q op ∙ sym (start_unless (note j) k q e)

    link_kept : is_linked heard ≡ false → (q : ℕ) → IsOperation j.count q → c Link q ≡ link (note j) (suc k) q
    link_kept e q op = a Link q op ∙ sym (link_unless (note j) k q e)

    taken_kept : item_of heard ≡ 0 → (q : ℕ) → IsOperation j.count q → c Taken q ≡ taken (note j) (suc k) q
    taken_kept e q op = a Taken q op ∙ sym (taken_unless (note j) k q e)

    stands_kept : (item : ℕ) → IsOperation j.count item → item_of heard ≢ item → c Stands item ≡ takes_at j.object (note j) j.count (suc k) item
    stands_kept item op n =
        a Stands item op
        ∙ sym (stands_elsewhere (course j) k o acts item (record { some = operation_some op; other = n }))

    -- the item of the step's event is what its operation took
    took_now : (n : ℕ) → Sounding heard → item_of heard ≡ n → (n ≡ 0) ⊎ (n ≢ 0) → n ≡ taken (note j) (suc k) o
    unfolding deeds
    took_now n s e (inl none) =
        let g : Going (deeds (note j) k o) = before_sound (course j) k o acts s in
        none ∙ sym g.not_taken ∙ sym (taken_unless (note j) k o (e ∙ none))
    took_now n s e (inr some) =
        let g : Going (deeds (note j) k o) = before_sound (course j) k o acts s in
        sym e ∙ sym (taken_new (note j) k o acts.by (λ z. some (sym e ∙ z)) g.no_join)

    taken_stored : (n : ℕ) → Sounding heard → item_of heard ≡ n → (q : ℕ) → IsOperation j.count q → upd (c Taken) o n q ≡ taken (note j) (suc k) q
    taken_stored n s e q op =
        column_stored (suc k) c Taken o n q (λ here. took_now n s e (split n 0)) (λ there. a Taken q op ∙ sym (taken_other (note j) k q (other there)))

    start_stored : heard ≡ Round → (q : ℕ) → IsOperation j.count q → upd (c Start) o (suc k) q ≡ start (note j) (suc k) q
    start_stored e q op =
        column_stored (suc k) c Start o (suc k) q (λ here. sym (start_new (note j) k o acts.by e)) (λ there. a Start q op ∙ sym (start_other (note j) k q (other there)))

    link_stored : heard ≡ Linked → (q : ℕ) → IsOperation j.count q → upd (c Link) o (suc k) q ≡ link (note j) (suc k) q
    unfolding deeds
    link_stored e q op =
        let g : Going (deeds (note j) k o) = before_sound (course j) k o acts (subst Sounding (sym e) tt) in
        column_stored (suc k) c Link o (suc k) q (λ here. sym (link_new (note j) k o acts.by e g.no_link)) (λ there. a Link q op ∙ sym (link_other (note j) k q (other there)))

    -- where Head moved to an item
    moved_here : (n : ℕ) → heard ≡ Moved n → IsOperation j.count n → earlier (c Stands n) (suc k) ≡ takes_at j.object (note j) j.count (suc k) n
    unfolding earlier
    moved_here n e op =
        pick_elim (λ x. x ≡ takes_at j.object (note j) j.count (suc k) n) (same (c Stands n) 0) (suc k) (c Stands n)
        (λ z. sym (stands_moved_first (course j) k o acts n e (sym (a Stands n op) ∙ same_equal z)))
        (λ z. a Stands n op ∙ sym (stands_moved_again (course j) k o acts n e (λ y. same_unequal z (a Stands n op ∙ y))))

    moved_stored : (n : ℕ) → heard ≡ Moved n → (item : ℕ) → IsOperation j.count item → upd (c Stands) n (earlier (c Stands n) (suc k)) item ≡ takes_at j.object (note j) j.count (suc k) item
    unfolding item_of
    moved_stored n e item op =
        column_stored (suc k) c Stands n (earlier (c Stands n) (suc k)) item (λ here. moved_here n e (subst (IsOperation j.count) here op)) (λ there. stands_kept item op (λ q. there (sym q ∙ ap item_of e)))

    -- where a mark was raised
    raised_stored : (t : ℕ) → heard ≡ Raised t → (item : ℕ) → IsOperation j.count item → upd (c Stands) t (max (c Stands t) (c Start o)) item ≡ takes_at j.object (note j) j.count (suc k) item
    unfolding item_of
    raised_stored t e item op =
        let own : IsOperation j.count o = acts.operation in
        column_stored (suc k) c Stands t (max (c Stands t) (c Start o)) item
        (λ here.
        let node : IsOperation j.count t = subst (IsOperation j.count) here op in
        (λ i. max (a Stands t node i) (a Start o own i))
        ∙ sym (stands_raised (course j) k o acts t e (operation_some node)))
        (λ there. stands_kept item op (λ q. there (sym q ∙ ap item_of e)))

    late_kept : (n : ℕ) → heard ≡ Late n → (item : ℕ) → IsOperation j.count item → (item ≡ n) ⊎ (item ≢ n) → c Stands item ≡ takes_at j.object (note j) j.count (suc k) item
    unfolding item_of
    late_kept n e item op (inl here) =
        a Stands item op
        ∙ sym (stands_late (course j) k o acts item (e ∙ ap Late (sym here)) (operation_some op))
    late_kept n e item op (inr there) = stands_kept item op (λ q. there (sym q ∙ ap item_of e))

    -- an operation's first step stays once it is there
    first_here : earlier (c First o) (suc k) ≡ first (note j) (suc k) o
    unfolding earlier
    first_here =
        pick_elim (λ x. x ≡ first (note j) (suc k) o) (same (c First o) 0) (suc k) (c First o)
        (λ z. sym (first_new (note j) k o acts.by (sym (a First o acts.operation) ∙ same_equal z)))
        (λ z. a First o acts.operation ∙ sym (first_stays (note j) k o (suc k) (omega arith) (λ y. same_unequal z (a First o acts.operation ∙ y))))

    first_stored : (q : ℕ) → IsOperation j.count q → upd (c First) o (earlier (c First o) (suc k)) q ≡ first (note j) (suc k) q
    first_stored q op =
        column_stored (suc k) c First o (earlier (c First o) (suc k)) q (λ here. first_here) (λ there. a First q op ∙ sym (first_other (note j) k q (other there)))

    -- who makes a step was not dropped, and the step drops none
    drops_none : {q : ℕ} → IsOperation j.count q → dropped j (suc k) ≢ q
    drops_none op e = operation_some op (sym e ∙ actor_drops_none j k o (operation_some acts.operation) acts.by)

    not_dropped : ending j (suc k) o ≡ last (note j) (suc k) o
    not_dropped = pick_then _ _ (equal_same (drop_other j o k (drops_none acts.operation) ∙ actor_undropped j k o (operation_some acts.operation) acts.by))

    -- its last step is where it answers
    last_stored : (ends : Bool) → is_answer (note j (suc k)).answer ≡ ends → (q : ℕ) → IsOperation j.count q → upd (c Last) o (pick ends (suc k) (c Last o)) q ≡ ending j (suc k) q
    unfolding pick deeds
    last_stored true e q op =
        column_stored (suc k) c Last o (suc k) q
        (λ here. sym (last_new (note j) k o acts.by e (acts_new (course j) k o acts).not_over) ∙ sym not_dropped)
        (λ there. a Last q op ∙ sym (ending_kept k q (drops_none op) (last_other (note j) k q (other there))))
    last_stored false e q op = ap (λ f. f q) (upd_id (c Last) o) ∙ a Last q op ∙ sym (ending_kept k q (drops_none op) (last_unless (note j) k q e))

    -- by the event
    module _ (ends : Bool) (answers : is_answer (note j (suc k)).answer ≡ ends) where
      abbrev Kept : Event → OpColumn → Type 0
      Kept e f = (q : ℕ) → IsOperation j.count q → closed ends o (suc k) (noted e o (suc k) (entered o (suc k) c)) f q ≡ held j (suc k) f q

      quiet_item : {e : Event} → heard ≡ e → item_of e ≡ 0 → (item : ℕ) → IsOperation j.count item → c Stands item ≡ takes_at j.object (note j) j.count (suc k) item
      quiet_item e none item op = stands_kept item op (λ q. operation_some op (sym q ∙ ap item_of e ∙ none))

      kept_by : (e : Event) → heard ≡ e → (f : OpColumn) → Kept e f
      unfolding entered noted closed stored_in pick same item_of is_round is_linked
      kept_by Quiet e =
          by_column (Kept Quiet) first_stored (last_stored ends answers) (start_kept (ap is_round e)) (link_kept (ap is_linked e)) (taken_kept (ap item_of e)) (quiet_item e refl)
      kept_by Round e =
          by_column (Kept Round) first_stored (last_stored ends answers) (start_stored e) (link_kept (ap is_linked e)) (taken_kept (ap item_of e)) (quiet_item e refl)
      kept_by Linked e =
          by_column (Kept Linked) first_stored (last_stored ends answers) (start_kept (ap is_round e)) (link_stored e) (taken_kept (ap item_of e)) (quiet_item e refl)
      kept_by (Moved n) e =
          by_column (Kept (Moved n)) first_stored (last_stored ends answers) (start_kept (ap is_round e)) (link_kept (ap is_linked e))
          (taken_stored n (subst Sounding (sym e) tt) (ap item_of e)) (moved_stored n e)
      kept_by (Late n) e =
          by_column (Kept (Late n)) first_stored (last_stored ends answers) (start_kept (ap is_round e)) (link_kept (ap is_linked e))
          (taken_stored n (subst Sounding (sym e) tt) (ap item_of e)) (λ item op. late_kept n e item op (split item n))
      kept_by (Raised t) e =
          by_column (Kept (Raised t)) first_stored (last_stored ends answers) (start_kept (ap is_round e)) (link_kept (ap is_linked e))
          (taken_stored t (subst Sounding (sym e) tt) (ap item_of e)) (raised_stored t e)

      -- the stores of a step that an operation makes
      pub acts_keep : Agrees j (suc k) (closed ends o (suc k) (noted heard o (suc k) (entered o (suc k) c)))
      acts_keep = kept_by heard refl
