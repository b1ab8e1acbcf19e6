-- What is cut, packed, unpacked and fed is handed out: the unpacker gives what was packed, and what is fed of it arrives whole.
use Prim.Native.Nat.{ℕ}
use Rattle.std.specs.Prelude.{Result}
use Rattle.ground_refusal.specs.declared.Refusal.{Refusal}
use mathlib.Core.List.{List, Memᴰ as In}
use mathlib.Core.Path.{◌≡◌, refl, sym, ap, ◌∙◌, subst}
use lib.ListN.{length, take}
use Rattle.ground_placing.proofs.Placing.{placed_start}
use Rattle.packet_memory.specs.Memory.{Memory}
use Rattle.packet_reader.specs.Unpacking.{gives}
use Rattle.packet_arrival.proofs.Arrival.{arrives}
use Rattle.gathering_account.specs.Gathers.{ByteStrings, handed_output, HandsOut}
use Rattle.gathering_account.proofs.Cuts.{cut_arrives}
use Rattle.promises_road.specs.Road.{OverPackets, Road, box_of, bytes_by, handed_bytes}

gives_same : {ss ts : List (List ℕ)} {m n : Memory} → gives ss m ≡ gives ts n → ss ≡ ts
gives_same e = cc

pub got_is : (sent got : List (List ℕ)) → OverPackets sent got → got ≡ sent
got_is sent got p = gives_same (sym p.unpacked ∙ (arrives p.room p.counter sent p.enough p.low p.good).1)

module _ {body : List ℕ} {kind extension version : ℕ} (r : Road body kind extension version) where
  pub handed_out : HandsOut (box_of r) r.out body
  unfolding ByteStrings
  handed_out =
      let g = r.gathered in
      cut_arrives body kind extension version g.cut.allowed g.cut.some g.cut.most r.store r.fed
      (λ s i. r.over_packets.bytes s (subst (In s) (got_is r.sent r.got r.over_packets) (g.received s i))) g.arrives r.out r.roomy

  pub arrived : handed_bytes r ≡ body
  unfolding bytes_by
  arrived =
      ap (λ (h : Result ℕ Refusal). bytes_by h (handed_output (box_of r) r.out)) handed_out.answers
      ∙ ap (take (length body)) handed_out.writes ∙ placed_start r.out body (length body) refl
