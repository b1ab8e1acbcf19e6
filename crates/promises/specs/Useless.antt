-- 01, 'Strength of the statements', "Useless versions to shut out": what each would do, and that the promises do not allow it.
use Rattle.std.specs.Prelude.{ℕ, ◌≡◌, false, List, Ok, Err}
use Rattle.ground_refusal.specs.declared.Refusal.{Refusal}
use Rattle.ground_placing.specs.Placed.{placed}
use Rattle.section_cutter.specs.Cutting.{counted_of}
use Rattle.gathering_state.specs.State.{nothing_begun}
use Rattle.gathering_state.specs.declared.Gathering.{Gathering}
use Rattle.gathering_feed.specs.Feeding.{fed_of, store_after}
use Rattle.gathering_hand_out.specs.Handing.{handed_of, out_after}
use Rattle.body_formats.specs.Body.{body_read}
use Rattle.index.specs.Index.{index_kind, index}
use Rattle.index_fields.specs.Asked.{message_count}

pub record ShutOut : Type 0 where
  -- "One that refuses all": a reader, and handing out
  pub refuses_all : ((kind : ℕ) (body : List ℕ) → (r : Refusal) × (body_read index index_kind kind body ≡ Err r)) → ⊥
  pub hands_out_nothing : ((g : Gathering) (store out : List ℕ) (n : ℕ) → handed_of g store out ≡ Ok n → ⊥) → ⊥
  -- "One that hands out the same body always"
  pub same_body : (body : List ℕ) → ((g : Gathering) (store out : List ℕ) (n : ℕ) → handed_of g store out ≡ Ok n → out_after g store out ≡ placed out 0 body) → ⊥
  -- "One that takes nothing"
  pub takes_nothing : ((g : Gathering) (store s : List ℕ) → (fed_of g store s).state ≡ g) → ⊥
  -- "One that stores the first section and only marks the rest"
  pub only_marks : ((g : Gathering) (store s : List ℕ) → nothing_begun g ≡ false → store_after g store s ≡ store) → ⊥
  -- "A made-up section or message count": the same one always
  pub same_section_count : (count : ℕ) → ((bytes : ℕ) → counted_of bytes ≡ Ok count) → ⊥
  pub same_message_count : (count after : ℕ) → ((body : List ℕ) → message_count body ≡ Ok (count, after)) → ⊥
