-- By its row, what a queue operation knows of its registers; and that a step of another operation leaves it so. `front s` is the next of
-- Head after s steps. Assumes nothing.
use mathlib.Core.Path.{◌≡◌, sym, ap, ◌∙◌}
use mathlib.Core.Logic.{◌≢◌, ◌⊎◌, inl, inr}
use Prim.Native.Nat.{ℕ, suc, ◌≤◌, ◌<◌}
use native.Mathlib.Omega.{arith}
use Rattle.basics.proofs.Choice.{split}
use Rattle.machine.specs.declared.Row.TheVariants.{Q1, Q2, Q3, Q4, Q5, T1, T2, T3, T4, T5, Done, ItemN, Empty}
use Rattle.machine.proofs.Turns.Locals.{Local, at_row}
use Rattle.theory.proofs.Nodes.{IsLinked}
use Rattle.theory.proofs.Queue.Memory.{Now, Sound}
use Rattle.theory.proofs.Queue.Grows.{Grows}

-- n is the next of i
pub record Leads (i n : ℕ) (v : Now) : Type 0 where
  pub next_is : v.next i ≡ n
  pub some_node : n ≢ 0

-- h was Head at step `start`
pub record SawHead (front : ℕ → ℕ) (h start : ℕ) (v : Now) : Type 0 where
  pub h_linked : IsLinked v.born h
  pub h_reached : v.born h ≤ v.born v.head
  -- Head has moved past h since then alone
  pub moved_since : (i : ℕ) → v.moved i ≢ 0 → v.born h < v.born i → start < v.moved i
  -- if h has no next, it had none then
  pub bare_then : v.next h ≡ 0 → front start ≡ 0

-- t was Tail after that
pub record Between (h t : ℕ) (v : Now) : Type 0 where
  pub t_linked : IsLinked v.born t
  pub h_to_t : v.born h ≤ v.born t
  pub t_reached : v.born t ≤ v.born v.tail

-- n is an item that Head moved to, after step `start` and not after step `join`
pub record Served (n start join : ℕ) (v : Now) : Type 0 where
  pub some_item : n ≢ 0
  pub has_moved : v.moved n ≢ 0
  pub after_start : start < v.moved n
  pub to_join : v.moved n ≤ join

-- operation o with its last T1 and its T5, at a row or an end of the listings
pub data Knows (front : ℕ → ℕ) (o start join : ℕ) (v : Now) : Local → Type 0 where
  in_q1 : {h t n : ℕ} → Knows front o start join v (at_row Q1 h t n)
  in_q2 : {h t n : ℕ} → IsLinked v.born t → Knows front o start join v (at_row Q2 h t n)
  in_q3 : {h t n : ℕ} → IsLinked v.born t → Knows front o start join v (at_row Q3 h t n)
  in_q4 : {h t n : ℕ} → Leads t o v → Knows front o start join v (at_row Q4 h t n)
  in_q5 : {h t n : ℕ} → Leads t n v → Knows front o start join v (at_row Q5 h t n)
  in_t1 : {h t n : ℕ} → Knows front o start join v (at_row T1 h t n)
  in_t2 : {h t n : ℕ} → SawHead front h start v → Knows front o start join v (at_row T2 h t n)
  in_t3 : {h t n : ℕ} → SawHead front h start v → Between h t v → Knows front o start join v (at_row T3 h t n)
  in_t4 : {h t n : ℕ} → Leads t n v → Knows front o start join v (at_row T4 h t n)
  in_t5 : {h t n : ℕ} → SawHead front h start v → Leads h n v → v.born n ≤ v.born v.tail → Knows front o start join v (at_row T5 h t n)
  in_done : {h t n : ℕ} → Knows front o start join v (at_row Done h t n)
  in_item : {h t n : ℕ} → Served n start join v → Knows front o start join v (at_row ItemN h t n)
  in_empty : {h t n : ℕ} → front start ≡ 0 → Knows front o start join v (at_row Empty h t n)

module _ {count k : ℕ} {v w : Now} (d : Sound count k v) (g : Grows k v w) where
  leads_grows : {i n : ℕ} → Leads i n v → Leads i n w
  leads_grows {i} p = record { next_is = g.next_kept i (λ z. p.some_node (sym p.next_is ∙ z)) ∙ p.next_is; some_node = p.some_node }

  round_grows : {front : ℕ → ℕ} {h start : ℕ} → start ≤ k → SawHead front h start v → SawHead front h start w
  round_grows {h} {start} early p =
      record {
        h_linked = g.stays_linked h p.h_linked;
        h_reached = omega (arith, same_h, p.h_reached, g.head_goes_on);
        moved_since = λ i m later. since i m later (g.moved_new i m);
        bare_then = λ z. p.bare_then (bare_before z (split (v.next h) 0));
      }
    where
      same_h : w.born h ≡ v.born h
      same_h = g.born_kept h p.h_linked

      since : (i : ℕ) → w.moved i ≢ 0 → w.born h < w.born i → (v.moved i ≢ 0) ⊎ (w.moved i ≡ suc k) → start < w.moved i
      since i m later (inl f) =
          let same_i : w.born i ≡ v.born i = g.born_kept i (λ n. d.ends.moved_linked i f) in
          omega (arith, g.moved_kept i f, p.moved_since i f (omega (arith, same_h)))
      since i m later (inr f) = omega arith

      bare_before : w.next h ≡ 0 → (v.next h ≡ 0) ⊎ (v.next h ≢ 0) → v.next h ≡ 0
      bare_before z (inl e) = e
      bare_before z (inr f) = absurd (f (sym (g.next_kept h f) ∙ z))

  between_grows : {h t : ℕ} → IsLinked v.born h → Between h t v → Between h t w
  between_grows {h} {t} l p =
      record {
        t_linked = g.stays_linked t p.t_linked;
        h_to_t = omega (arith, g.born_kept h l, same_t, p.h_to_t);
        t_reached = omega (arith, same_t, p.t_reached, g.tail_goes_on);
      }
    where
      same_t : w.born t ≡ v.born t
      same_t = g.born_kept t p.t_linked

  next_to_tail_grows : {i n : ℕ} → Leads i n v → v.born n ≤ v.born v.tail → w.born n ≤ w.born w.tail
  next_to_tail_grows {i} {n} p h = omega (arith, same_n, g.tail_goes_on)
    where
      same_n : w.born n ≡ v.born n
      same_n = g.born_kept n (λ m z. d.order.to_linked i (λ y. p.some_node (sym p.next_is ∙ y)) (ap v.born p.next_is ∙ z))

  taken_grows : {n start join : ℕ} → Served n start join v → Served n start join w
  taken_grows {n} p =
      record {
        some_item = p.some_item;
        has_moved = λ z. p.has_moved (sym same_n ∙ z);
        after_start = omega (arith, same_n, p.after_start);
        to_join = omega (arith, same_n, p.to_join);
      }
    where
      same_n : w.moved n ≡ v.moved n
      same_n = g.moved_kept n p.has_moved

  -- a step of another operation leaves what an operation knows
  pub knows_grows : {front : ℕ → ℕ} {o start join : ℕ} {l : Local} → start ≤ k → Knows front o start join v l → Knows front o start join w l
  knows_grows early in_q1 = in_q1
  knows_grows early (in_q2 {t = t} p) = in_q2 (g.stays_linked t p)
  knows_grows early (in_q3 {t = t} p) = in_q3 (g.stays_linked t p)
  knows_grows early (in_q4 p) = in_q4 (leads_grows p)
  knows_grows early (in_q5 p) = in_q5 (leads_grows p)
  knows_grows early in_t1 = in_t1
  knows_grows early (in_t2 p) = in_t2 (round_grows early p)
  knows_grows early (in_t3 p q) = in_t3 (round_grows early p) (between_grows p.h_linked q)
  knows_grows early (in_t4 p) = in_t4 (leads_grows p)
  knows_grows early (in_t5 p q h) = in_t5 (round_grows early p) (leads_grows q) (next_to_tail_grows q h)
  knows_grows early in_done = in_done
  knows_grows early (in_item p) = in_item (taken_grows p)
  knows_grows early (in_empty p) = in_empty p
