-- Of the leading blocks it is enough to look at as many as a file may have: the same is kept of them as of all. Assumes nothing.
use mathlib.Core.Path.{◌≡◌, sym, ap, ap₂, ◌∙◌}
use mathlib.Core.Logic.{◌≢◌, ◌⊎◌, inl, inr}
use Prim.Native.Nat.{ℕ, ◌*◌, ◌/◌, ◌≤◌, ◌<◌}
use native.Mathlib.Omega.{arith}
use mathlib.Core.Bool.{Bool}
use mathlib.Core.List.{List, ◌∷◌}
use lib.ListN.{length, take}
use Rattle.basics.specs.Choice.{pick}
use Rattle.basics.proofs.Choice.{compare}
use Rattle.block.specs.Block.{block_size, payload_size}
use Rattle.job.specs.declared.Limits.{Limits}
use Rattle.job.specs.Limits.{most_stream, Sound}
use Rattle.job.specs.Stream.{schedule_length, stream_length}
use Rattle.job.specs.Refusals.{first_met, exact_count, header_conditions, list_conditions}
use Rattle.job.specs.File.{block_count, payloads}
use Rattle.job.proofs.Conditions.{met_front}
use Rattle.job.proofs.Table.{exact_room}
use Rattle.remains.specs.Kept.{intact_blocks, intact, kept_blocks, kept, entries_kept, shortened}
use Rattle.remains.specs.Salvage.{cut_records, kept_conditions, kept_refusal, salvage_refusal, kept_entries, named_entries}
use Rattle.remains.specs.Looked.{looked}
use Rattle.remains.proofs.Leading.{leading_le, leading_first, payloads_first}
use Rattle.remains.proofs.Front.{header_same, header_of_front, front_under, entries_front, named_front, shortened_front, refusal_front}
use Rattle.remains.proofs.Unmet.{all_unmet, header_unmet, stream_small}

-- the intact blocks are full
pub intact_full : (file : List ℕ) → block_size * intact_blocks file ≤ length file
unfolding intact_blocks block_count block_size
intact_full file = omega (arith, leading_le file 0 (length file / block_size))

-- what is kept is the first bytes of what is intact, as many as its header asks for
module _ (file : List ℕ) where
  abbrev wanted : ℕ
  wanted = payload_size * exact_count (intact file)

  pub kept_front : kept file ≡ take wanted (intact file)
  unfolding kept kept_blocks intact
  kept_front = payloads_first file (intact_blocks file) (intact_full file) (exact_count (intact file))

  wanted_enough : stream_length (intact file) ≤ wanted
  wanted_enough = exact_room (intact file)

  refusal_intact : (l : Limits) → kept_refusal l (kept file) ≡ kept_refusal l (intact file)
  refusal_intact l = ap (kept_refusal l) kept_front ∙ refusal_front (intact file) wanted wanted_enough l

module _ {l : Limits} (sound : Sound l) (file : List ℕ) where
  abbrev most : ℕ
  most = payload_size * l.blocks

  looked_front : looked l file ≡ take most (intact file)
  unfolding looked intact intact_blocks
  looked_front = ap (payloads file 0) (leading_first file 0 (block_count file) l.blocks) ∙ payloads_first file (intact_blocks file) (intact_full file) l.blocks

  six : 6 ≤ most
  unfolding most_stream payload_size
  six = omega (arith, sound.stream_fits)

  -- a header that asks for more is refused, whatever else is there
  refused_alike : most < stream_length (intact file) → kept_refusal l (take most (intact file)) ≡ kept_refusal l (intact file)
  unfolding kept_refusal kept_conditions first_met
  refused_alike long =
      let s : List ℕ = intact file in
      let refused : first_met (header_conditions l s) ≢ 0 = λ z. let few : stream_length s ≤ most = stream_small (header_unmet l s z) sound in omega arith in
      let same : header_conditions l s ≡ header_conditions l (take most s) = header_same (header_of_front s most six) l in
      let by_header : (b : Bool) (x : ℕ) → ℕ = λ b x. pick b 14 x in
      ap₂ by_header (front_under s most 6 six)
      (sym (met_front (header_conditions l (take most s)) ((14, cut_records (take most s)) ∷ list_conditions (shortened (take most s))) (λ z. refused (ap first_met same ∙ z)))
      ∙ ap first_met (sym same)
      ∙ met_front (header_conditions l s) ((14, cut_records s) ∷ list_conditions (shortened s)) refused)

  pub refusal_looked : kept_refusal l (looked l file) ≡ salvage_refusal l file
  unfolding salvage_refusal
  refusal_looked =
      ap (kept_refusal l) looked_front
      ∙ go (compare (stream_length (intact file)) most)
      ∙ sym (refusal_intact file l)
    where
      go : (stream_length (intact file) ≤ most) ⊎ (most < stream_length (intact file)) → kept_refusal l (take most (intact file)) ≡ kept_refusal l (intact file)
      go (inl h) = refusal_front (intact file) most h l
      go (inr h) = refused_alike h

  module _ (accepted : salvage_refusal l file ≡ 0) where
    small : stream_length (intact file) ≤ most
    unfolding salvage_refusal
    small = stream_small (all_unmet l (intact file) (sym (refusal_intact file l) ∙ accepted)).header sound

    pub shortened_looked : shortened (looked l file) ≡ shortened (kept file)
    shortened_looked =
        ap shortened looked_front ∙ shortened_front (intact file) most small
        ∙ sym (ap shortened (kept_front file) ∙ shortened_front (intact file) (wanted file) (wanted_enough file))

    pub entries_looked : entries_kept (looked l file) ≡ kept_entries file
    unfolding kept_entries
    entries_looked =
        ap entries_kept looked_front ∙ entries_front (intact file) most small
        ∙ sym (ap entries_kept (kept_front file) ∙ entries_front (intact file) (wanted file) (wanted_enough file))

    pub named_looked : schedule_length (looked l file) ≡ named_entries file
    unfolding named_entries
    named_looked =
        ap schedule_length looked_front ∙ named_front (intact file) most small
        ∙ sym (ap schedule_length (kept_front file) ∙ named_front (intact file) (wanted file) (wanted_enough file))
