-- Laws of `HasRoom` and `Wrote`: writing one text and then another is writing both. Assumes nothing.
use mathlib.Core.Path.{◌≡◌, refl, sym, ap, subst, ◌∙◌}
use Prim.Native.Nat.{ℕ, ◌+◌, ◌≤◌, ◌<◌}
use native.Mathlib.Nat.{add-zero}
use native.Mathlib.Omega.{arith}
use mathlib.Core.List.{List, [], ◌∷◌, ◌++◌}
use lib.ListN.{length, set, length-append}
use Rattle.text.specs.Laid.{laid}
use Rattle.text.specs.declared.Page.{Page}
use Rattle.text.specs.Pages.{HasRoom, Wrote}
use Rattle.text.proofs.Laid.{laid_nothing, length_laid, laid_then, set_is_laid}

pub wrote_nothing : {p : Page} → p.at ≤ length p.memory.now → Wrote p p []
wrote_nothing {p} h =
    record { fits = record { room = omega arith }; lays = sym (laid_nothing p.memory.now p.at); behind = sym (add-zero p.at); same_memory = refl }

-- a byte that is stored where the next one goes is written
pub wrote_byte : {p q : Page} {b : ℕ} → p.at < length p.memory.now → q.memory.now ≡ set p.memory.now p.at b → q.at ≡ p.at + 1 → q.memory.ghost_name ≡ p.memory.ghost_name → Wrote p q (b ∷ [])
wrote_byte {p} {q} {b} h stored on same =
    record { fits = record { room = let r : p.at + 1 ≤ length p.memory.now = omega arith in r }; lays = stored ∙ set_is_laid p.memory.now p.at b h; behind = on; same_memory = same }

-- a page's memory stays as long as it is
pub as_long : {p q : Page} {a : List ℕ} → Wrote p q a → length q.memory.now ≡ length p.memory.now
as_long {p} {q} {a} w = ap length w.lays ∙ length_laid p.memory.now p.at a w.fits.room

-- and what was written is within it
pub within : {p q : Page} {a : List ℕ} → Wrote p q a → q.at ≤ length q.memory.now
within w = omega (arith, w.behind, w.fits.room, as_long w)

pub wrote_then : {p q r : Page} {a b : List ℕ} → Wrote p q a → Wrote q r b → Wrote p r (a ++ b)
wrote_then {p} {q} {r} {a} {b} v w =
    let both : length (a ++ b) ≡ length a + length b = length-append a b in
    let room : p.at + length (a ++ b) ≤ length p.memory.now = omega (arith, v.behind, w.fits.room, as_long v) in
    record {
      fits = record { room = room };
      lays = w.lays ∙ ap (λ (l : List ℕ). laid l q.at b) v.lays ∙ ap (λ (n : ℕ). laid (laid p.memory.now p.at a) n b) v.behind ∙ laid_then p.memory.now p.at a b room;
      behind = omega (arith, v.behind, w.behind);
      same_memory = w.same_memory ∙ v.same_memory;
    }

pub wrote_as : {p q : Page} {a b : List ℕ} → a ≡ b → Wrote p q a → Wrote p q b
wrote_as {p} {q} e w = subst (Wrote p q) e w

-- where there is room for two texts, there is for the first, and then for the other
pub room_first : {p : Page} {a : List ℕ} (b : List ℕ) → HasRoom p (a ++ b) → HasRoom p a
room_first {p} {a} b h = record { room = omega (arith, h.room, length-append a b) }

pub room_then : {p q : Page} {a b : List ℕ} → HasRoom p (a ++ b) → Wrote p q a → HasRoom q b
room_then {p} {q} {a} {b} h w = record { room = omega (arith, h.room, length-append a b, w.behind, as_long w) }

pub room_same : {p : Page} {a b : List ℕ} → a ≡ b → HasRoom p a → HasRoom p b
room_same {p} e h = subst (HasRoom p) e h

-- or for a shorter one
pub room_within : {p : Page} {a b : List ℕ} → length a ≤ length b → HasRoom p b → HasRoom p a
room_within {p} {a} {b} h room = record { room = omega (arith, h, room.room) }

-- a text that is known to be another, or two texts that are known to be one
pub room_of : {p : Page} {a whole : List ℕ} → a ≡ whole → HasRoom p whole → HasRoom p a
room_of e room = room_same (sym e) room

pub room_front : {p : Page} {a whole : List ℕ} (b : List ℕ) → a ++ b ≡ whole → HasRoom p whole → HasRoom p a
room_front b e room = room_first b (room_of e room)

pub room_rest : {p q : Page} {a b whole : List ℕ} → a ++ b ≡ whole → HasRoom p whole → Wrote p q a → HasRoom q b
room_rest e room w = room_then (room_of e room) w

pub wrote_both : {p q r : Page} {a b whole : List ℕ} → a ++ b ≡ whole → Wrote p q a → Wrote q r b → Wrote p r whole
wrote_both e v w = wrote_as e (wrote_then v w)
