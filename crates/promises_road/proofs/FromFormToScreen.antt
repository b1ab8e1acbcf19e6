-- M-113: the road, put together from the writers' round trips, the packets' arrival, the gathering's, and what is typed and printed.
use mathlib.Core.Path.{◌≡◌, sym, ap, ◌∙◌, subst}
use Rattle.std.specs.Prelude.{Ok}
use Prim.Native.Nat.{ℕ, ◌+◌}
use mathlib.Core.List.{List, Memᴰ as In}
use lib.IntN.{ℤ}
use lib.ListN.{length}
use Rattle.body_extension.specs.Extension.{extension_of}
use Rattle.index.specs.Index.{Message, Index, index_kind}
use Rattle.index_fields.specs.Agreement.{IndexAsked}
use Rattle.index_fields.proofs.Asked.{index_asked}
use Rattle.content.specs.Content.{Content, content_kind}
use Rattle.content_fields.proofs.Asked.{content_asked}
use Rattle.promises_road.specs.Road.{FormTimes, IndexWritten, ContentWritten, Road, handed_bytes, IndexShown, ContentShown, FoundBy}
use Rattle.promises_road.specs.FromFormToScreen.{FromFormToScreen}
use Rattle.promises_road.proofs.Calls.{cut_by_call, by_calls}
use Rattle.promises_road.proofs.Written.{index_read, index_accepted, content_read_lem, given_is, content_accepted}
use Rattle.promises_road.proofs.Arrived.{handed_out, arrived}
use Rattle.promises_road.proofs.Shown.{all_shown, stands}

module _ (offset : ℤ) (times : List FormTimes) (t : Index) (body : List ℕ) (w : IndexWritten offset times t body) where
  asked : IndexAsked body t
  asked = index_asked index_kind body w.bytes.byte t (length body) (index_read offset times t body w)

  index_shown : IndexShown offset times t body
  index_shown =
      record {
        accepted = index_accepted offset times t body w;
        times_shown = all_shown offset body 0 times t.messages 1 asked.messages_end w.typed asked.messages_asked;
        fields_asked = asked;
      }

  found_by : (v w' : ℕ) (c : Content) (given : ℕ) (text : List ℕ) → ContentWritten v w' c given text
      → (m : Message) → In m t.messages → m.identifier ≡ c.identifier → FoundBy body m given
  found_by v w' c given text x m n e =
      let k = stands body 0 t.messages 1 asked.messages_end asked.messages_asked m n in
      let a = k.3 in
      record {
        number = k.0;
        at = k.1 + 2;
        size = a.size;
        part = a.part_follows.is;
        fields = a.fields_asked;
        extension_is =
            a.fields_asked.extension_is ∙ ap (λ (ds : List ℕ). Ok (extension_of ds, k.1 + 2 + 18)) e
            ∙ ap (λ (y : ℕ). Ok (y, k.1 + 2 + 18)) (sym (given_is v w' c given text x));
      }

content_shown : (v w : ℕ) (t : Content) (given : ℕ) (body : List ℕ) → ContentWritten v w t given body → ContentShown v w t given body
content_shown v w t given body c =
    record {
      accepted = content_accepted v w t given body c;
      fields_asked = content_asked w content_kind body c.bytes.byte t (length body) (content_read_lem v w t given body c);
    }

-- what is said of a body is so of the bytes that are handed out
on : {body : List ℕ} {kind extension version : ℕ} (P : List ℕ → Type 0) (r : Road body kind extension version) → P body → P (handed_bytes r)
on P r p = subst P (sym (arrived r)) p

pub from_form_to_screen : FromFormToScreen
from_form_to_screen =
    record {
      cut_by_call = cut_by_call;
      packed_by_calls = by_calls;
      comes_out = handed_out;
      indexes = λ offset times t body w extension version r. on (IndexShown offset times t) r (index_shown offset times t body w);
      contents = λ v w t given body c version r. on (ContentShown v w t given) r (content_shown v w t given body c);
      found_by = λ offset times t body w extension version r v w' c given text x m n e.
          on (λ (s : List ℕ). FoundBy s m given) r (found_by offset times t body w v w' c given text x m n e);
    }
