-- A line and its members: each member's own effect is that line, and an operation's own effect is a line of the record, between the
-- operation's first and last step. Assumes nothing.
use mathlib.Core.Path.{◌≡◌, refl, sym, ap, subst, subst₂, ◌∙◌}
use mathlib.Core.Logic.{◌≢◌, ◌⊎◌, inl, inr}
use Prim.Native.Nat.{ℕ, zero, suc, ◌≤◌}
use mathlib.Core.Bool.{true, not, and-eq-true_iff}
use mathlib.Core.List.Memᴰ
use mathlib.Core.List.{[], Memᴰ}
use native.Mathlib.Omega.{arith}
use Rattle.basics.specs.Choice.{same}
use Rattle.basics.proofs.Choice.{equal_same}
use Rattle.job.specs.declared.Kind.{Kind}
use Rattle.machine.specs.declared.Event.TheVariants.{Quiet}
use Rattle.machine.specs.Multiplicity.{Line}
use Rattle.machine.specs.Multiplicity.Line.{put, takes, empty}
use Rattle.machine.specs.Notes.{Answer}
use Rattle.machine.specs.Journal.{item_of, made, joins, first, last, answer, start, link, join, taken}
use Rattle.machine.specs.Effects.{takers, takes_at, effect}
use Rattle.machine.specs.Effects.Effect.{stands}
use Rattle.machine.specs.Record.{line_at}
use Rattle.machine.specs.Explained.{members, IsOperation}
use Rattle.machine.proofs.Searches.{earliest_meets}
use Rattle.machine.proofs.Stamps.{link_le, start_le, join_le, taken_none}
use Rattle.machine.proofs.Effected.{Effected, effected, MayLine, effect_event, link_step, start_step, taker_in, taker_out, effect_of_put, line_without_effect}
use Rattle.machine.proofs.Effected.Effected.{by_put, by_take, by_empty, by_none}
use Rattle.theory.proofs.Course.{Course, PassesIn, ActsIn, passes_event}
use Rattle.theory.proofs.Deeds.{deeds}
use Rattle.theory.proofs.Life.{made_from_first, made_to_last}
use Rattle.theory.proofs.Lines.{found_nothing, effect_of_taker, effect_of_empty}
use Rattle.theory.proofs.Laws.{Laws}

-- who made a step at which a line may stand is an operation
maker_of_line : {kind : Kind} (c : Course kind) (s : ℕ) → 1 ≤ s → MayLine (c.log s).event → IsOperation c.count (c.log s).by
maker_of_line c zero low m = absurd (omega arith)
maker_of_line c (suc s) low m = go (c.step s)
  where
    not_quiet : MayLine Quiet → ⊥
    not_quiet q = elim q [ ]

    go : PassesIn c s ⊎ ((o : ℕ) × ActsIn c s o) → IsOperation c.count (c.log (suc s)).by
    go (inl i) = absurd (not_quiet (subst MayLine (passes_event i) m))
    go (inr a) = subst (IsOperation c.count) (sym a.1.by) a.1.operation

pub maker_of_effect : {kind : Kind} (c : Course kind) (k s o : ℕ) (line : Line) → 1 ≤ s → effect kind c.log c.count k o ≡ stands s line → IsOperation c.count (c.log s).by
maker_of_effect {kind} c k s o line low e = maker_of_line c s low (effect_event kind c.log c.count k s o line low e)

-- so a step that nobody makes has no line
pub nobody_no_line : {kind : Kind} (c : Course kind) (k s : ℕ) → 1 ≤ s → (c.log s).by ≡ 0 → line_at kind c.log c.count k s ≡ []
nobody_no_line {kind} c k s low nobody =
    line_without_effect kind c.log c.count k s
    (λ line e. let maker : 1 ≤ (c.log s).by = (maker_of_effect c k s (c.log s).by line low e).from_one in omega arith)

-- the effect of a member of a line is that line
pub record Member {kind : Kind} (c : Course kind) (k s : ℕ) (line : Line) (o : ℕ) : Type 0 where
  pub operation : IsOperation c.count o
  pub its_effect : effect kind c.log c.count k o ≡ stands s line

pub member : {kind : Kind} (c : Course kind) (k s : ℕ) (line : Line) (o : ℕ) → 1 ≤ s → effect kind c.log c.count k (c.log s).by ≡ stands s line → Memᴰ o (members line) → Member c k s line o
unfolding members
member {kind} c k s line o low e m = go (effected kind c.log c.count k (c.log s).by)
  where
    -- a line of its maker alone
    alone : o ≡ (c.log s).by → Member c k s line o
    alone same_one = record { operation = subst (IsOperation c.count) (sym same_one) (maker_of_effect c k s (c.log s).by line low e); its_effect = ap (effect kind c.log c.count k) same_one ∙ e }

    -- a line of takers
    together : (item : ℕ) → item ≢ 0 → stands (takes_at kind c.log c.count k item) (takes item (takers c.log c.count k item)) ≡ stands s line → Memᴰ o (takers c.log c.count k item) → Member c k s line o
    together item some at among =
        let taker : IsOperation c.count o × (taken c.log k o ≡ item) = taker_out c.log c.count k o item among in
        record {
          operation = taker.0;
          its_effect = effect_of_taker c k o taker.0 (λ z. some (sym taker.1 ∙ z)) ∙ ap (λ n. stands (takes_at kind c.log c.count k n) (takes n (takers c.log c.count k n))) taker.1 ∙ at;
        }

    go : Effected kind c.log c.count k (c.log s).by → Member c k s line o
    go (by_put l h) = let is : line ≡ put (c.log s).by = cc in alone (Memᴰ.eq_of_singleton (subst (λ x. Memᴰ o (members x)) is m))
    go (by_take l t h) =
        let item : ℕ = taken c.log k (c.log s).by in
        let is : line ≡ takes item (takers c.log c.count k item) = cc in
        together item t (sym h ∙ e) (subst (λ x. Memᴰ o (members x)) is m)
    go (by_empty l t a h) = let is : line ≡ empty (c.log s).by = cc in alone (Memᴰ.eq_of_singleton (subst (λ x. Memᴰ o (members x)) is m))
    go (by_none l t a h) = let z : ◌≡◌ {A = ℕ} 0 1 = cc in absurd (omega arith)

-- an operation's own effect: a line of the record, from the operation's first step to its last
pub record Own {kind : Kind} (c : Course kind) (k o s : ℕ) (line : Line) : Type 0 where
  pub from_one : 1 ≤ s
  pub to_end : s ≤ k
  pub of_maker : effect kind c.log c.count k (c.log s).by ≡ stands s line
  pub its_line : Memᴰ o (members line)
  pub begun : first c.log k o ≢ 0
  pub from_first : first c.log k o ≤ s
  -- not after some step that the operation made, so not after its last
  pub own_step : ℕ
  pub is_own : made c.log o own_step ≡ true
  pub among : own_step ≤ k
  pub to_own : s ≤ own_step

pub own_to_last : {kind : Kind} {c : Course kind} {k o s : ℕ} {line : Line} → IsOperation c.count o → Own c k o s line → last c.log k o ≢ 0 → s ≤ last c.log k o
own_to_last {c = c} {k = k} {o = o} op w ended = omega (arith, w.to_own, made_to_last c k o w.own_step op w.is_own w.among ended)

-- an effect at a step that the operation made itself
own_of_maker : {kind : Kind} (c : Course kind) (k o s : ℕ) (line : Line) → IsOperation c.count o → (c.log s).by ≡ o → s ≢ 0 → s ≤ k → effect kind c.log c.count k o ≡ stands s line → Memᴰ o (members line) → Own c k o s line
unfolding made
own_of_maker {kind} c k o s line op b low high e m =
    let own_step : made c.log o s ≡ true = equal_same b in
    let f : (first c.log k o ≢ 0) × (first c.log k o ≤ s) = made_from_first c k o s own_step (omega arith) high in
    record {
      from_one = omega arith;
      to_end = high;
      of_maker = ap (effect kind c.log c.count k) b ∙ e;
      its_line = m;
      begun = f.0;
      from_first = f.1;
      own_step = s;
      is_own = own_step;
      among = high;
      to_own = omega arith;
    }

join_made : {kind : Kind} (c : Course kind) (k o : ℕ) → join c.log k o ≢ 0 → made c.log o (join c.log k o) ≡ true
unfolding join joins
join_made c k o some = ((and-eq-true_iff (made c.log o (join c.log k o)) (not (same (item_of (c.log (join c.log k o)).event) 0))).0 (earliest_meets (joins c.log o) k some)).0

module _ {kind : Kind} (c : Course kind) (k : ℕ) (laws : Laws c k) (o : ℕ) (op : IsOperation c.count o) where
  own_put : link c.log k o ≢ 0 → Own c k o (link c.log k o) (put o)
  unfolding members
  own_put l = own_of_maker c k o (link c.log k o) (put o) op (link_step c.log k o l).by l (link_le c.log k o) (effect_of_put kind c.log c.count k o l) (Memᴰ.head refl)

  own_empty : answer c.log k o ≡ Answer.empty → Own c k o (start c.log k o) (empty o)
  unfolding deeds members
  own_empty a =
      let some : start c.log k o ≢ 0 = (found_nothing c k o op a).started in
      own_of_maker c k o (start c.log k o) (empty o) op (start_step c.log k o some).by some (start_le c.log k o) (effect_of_empty c k o op a) (Memᴰ.head refl)

  own_take : taken c.log k o ≢ 0 → Own c k o (takes_at kind c.log c.count k (taken c.log k o)) (takes (taken c.log k o) (takers c.log c.count k (taken c.log k o)))
  unfolding members
  own_take t =
      let item : ℕ = taken c.log k o in
      let s : ℕ = takes_at kind c.log c.count k item in
      let joined : join c.log k o ≢ 0 = λ z. t (taken_none c.log o c.log_first k z) in
      let own_step : made c.log o (join c.log k o) ≡ true = join_made c k o joined in
      let f : (first c.log k o ≢ 0) × (first c.log k o ≤ join c.log k o) = made_from_first c k o (join c.log k o) own_step (omega arith) (join_le c.log k o) in
      let from : first c.log k o ≤ s = laws.from_first o op t in
      let to : s ≤ join c.log k o = laws.to_join o op t in
      let low : 1 ≤ s = omega arith in
      let e : effect kind c.log c.count k o ≡ stands s (takes item (takers c.log c.count k item)) = effect_of_taker c k o op t in
      let p : IsOperation c.count (c.log s).by = maker_of_effect c k s o (takes item (takers c.log c.count k item)) low e in
      let same_item : taken c.log k (c.log s).by ≡ item = laws.by_taker o op t in
      record {
        from_one = low;
        to_end = omega (arith, join_le c.log k o);
        of_maker = effect_of_taker c k (c.log s).by p (λ z. t (sym same_item ∙ z)) ∙ ap (λ n. stands (takes_at kind c.log c.count k n) (takes n (takers c.log c.count k n))) same_item;
        its_line = taker_in c.log c.count k o item op refl;
        begun = f.0;
        from_first = from;
        own_step = join c.log k o;
        is_own = own_step;
        among = join_le c.log k o;
        to_own = to;
      }

  pub own : (s : ℕ) (line : Line) → effect kind c.log c.count k o ≡ stands s line → Own c k o s line
  own s line e = go (effected kind c.log c.count k o)
    where
      at : {t : ℕ} {l : Line} → Own c k o t l → effect kind c.log c.count k o ≡ stands t l → Own c k o s line
      at {t} {l} w h =
          let p : t ≡ s = cc in
          let q : l ≡ line = cc in
          subst₂ (Own c k o) p q w

      go : Effected kind c.log c.count k o → Own c k o s line
      go (by_put l h) = at (own_put l) h
      go (by_take l t h) = at (own_take t) h
      go (by_empty l t a h) = at (own_empty a) h
      go (by_none l t a h) = let z : ◌≡◌ {A = ℕ} 0 1 = cc in absurd (omega arith)
