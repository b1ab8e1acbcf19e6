-- The packer and the unpacker go through their lines as they are listed.
use Prim.Native.Nat.{ℕ, ◌-◌}
use Rattle.ground_refusal.specs.declared.Refusal.{Refusal}
use mathlib.Core.Bool.{Bool, true, false, not, ◌&&◌}
use mathlib.Core.List.{List, []}
use mathlib.Core.Path.{◌≡◌, refl, ap, ◌∙◌}
use native.Mathlib.Omega.{arith}
use lib.Dec.{eqb, ltb}
use lib.ListN.{length}
use Rattle.std.specs.Prelude.{if◌then◌else◌, Result, Ok, Err}
use Rattle.ground_refusal.specs.declared.Refusal.TheVariants.{OutputTooSmall, NotAPacket, NoSyncByte, OtherPid, Scrambled, PastPacket}
use Rattle.section_reader.specs.Section.{heading_of, read_section}
use Rattle.packet.specs.Fields.{byte, has_error, pid, scrambling, control, in_place}
use Rattle.packet.specs.Judging.{judged}
use Rattle.packet.specs.declared.Judged.TheVariants.{Damaged, Skipped, Carrying}
use Rattle.packet_frames.specs.Framing.{Read, joined}
use Rattle.packet_plan.specs.Reading.{read_on}
use Rattle.packet_memory.specs.Memory.{held_after, repeated_once, is_repeat, going_on}
use Rattle.packet_memory.specs.State.{memory_of}
use Rattle.packet_reader.specs.Unpacking as unpacker
use Rattle.packet_reader.specs.Answers as completing
use Rattle.packet_writer.specs.Packing as packer
use Rattle.packet_writer.specs.Answers as packing
use Rattle.promises_orders.specs.Order.{AsListed}
use Rattle.promises_orders.specs.Sections.{section_lines}
use Rattle.promises_orders.specs.Packets.{packer_lines, is_read, unpacker_lines, IsSections}
use Rattle.promises_orders.proofs.Order.{Told, outcome, outcome_told, by_lines}

-- ---- the packer

pack_told : (n : ℕ) → Told Err (λ (a : Result ℕ Refusal). a ≡ Ok n)
pack_told n = record { same = λ r r' e. cc; apart = λ r e. let z : ◌≡◌ {A = ℕ} 0 1 = cc in omega arith }

module _ (counter : ℕ) (section out : List ℕ) where
  bytes : List ℕ
  bytes = packer.laid (packer.packed counter section)

  decides : packer.packing (length out) counter section ≡ outcome packer.refuses (packer_lines counter section out) (packer.writes bytes)
  unfolding packer.packing packer.packing_of packer.packing_if_room read_section section_lines packer_lines outcome heading_of bytes
  decides =
      outcome_told (λ x. packer.packing_of x (length out) counter section) Err packer.refuses (λ r. refl) (section_lines section)
      (Ok (heading_of section, length section - 12))

  packs : packing.packed_of counter section out ≡ outcome Err (packer_lines counter section out) (Ok (length bytes))
  unfolding packing.packed_by
  packs =
      ap packing.packed_by decides
      ∙ outcome_told packing.packed_by packer.refuses Err (λ r. refl) (packer_lines counter section out) (packer.writes bytes)

  pub packer_as_listed : AsListed Err (λ a. a ≡ Ok (length (packer.laid (packer.packed counter section))))
      (packer_lines counter section out) (packing.packed_of counter section out)
  unfolding bytes
  packer_as_listed = rw packs (by_lines Err _ (pack_told _) (packer_lines counter section out) _ refl)

-- ---- the unpacker

unpack_told : Told Err IsSections
unpack_told = record { same = λ r r' e. cc; apart = λ r v. let e = v.1 in let z : ◌≡◌ {A = ℕ} 0 1 = cc in omega arith }

module _ (s p out : List ℕ) where
  r : Read
  r = read_on (going_on (memory_of s) p) p

  -- what is told where no line holds
  value : Result ℕ Refusal
  value =
      if has_error p then Ok 0 else
      if eqb (control p) 2 then Ok 0 else
      if is_repeat (memory_of s) p then Ok 0 else
      Ok (length (joined r.sections))

  value_is : IsSections value
  unfolding value
  value_is = go (has_error p) (eqb (control p) 2) (is_repeat (memory_of s) p)
    where
      go : (a b c : Bool)
          → IsSections (if a then Ok 0 else if b then Ok 0 else if c then Ok 0 else Ok (length (joined r.sections)))
      go true b c = (0, refl)
      go false true c = (0, refl)
      go false false true = (0, refl)
      go false false false = (length (joined r.sections), refl)

  -- a packet that is taken
  taken : completing.answer_by (unpacker.carrying (length out) (memory_of s) p)
      ≡ (if not (is_repeat (memory_of s) p) && ltb (length out) (length (joined r.sections)) then Err OutputTooSmall else
      if is_repeat (memory_of s) p then Ok 0 else Ok (length (joined r.sections)))
  unfolding completing.answer_by unpacker.carrying unpacker.fitting r joined
  taken = go (is_repeat (memory_of s) p) (ltb (length out) (length (joined r.sections)))
    where
      go : (h i : Bool)
          → completing.answer_by
          (if h then unpacker.gives [] (repeated_once (memory_of s)) else
          if i then unpacker.refuses OutputTooSmall else unpacker.gives r.sections (held_after r.unfinished p))
          ≡ (if not h && i then Err OutputTooSmall else if h then Ok 0 else Ok (length (joined r.sections)))
      go true i = refl
      go false true = refl
      go false false = refl

  tells : completing.completed_of s p out ≡ outcome Err (unpacker_lines s p out) value
  unfolding completing.answer_by unpacker.unpacking unpacker.verdict_on judged is_read unpacker_lines outcome value r joined
  tells =
      go (not (eqb (length p) 188)) (not (eqb (byte p 0) 0x47)) (has_error p) (not (eqb (pid p) 0x21)) (not (eqb (scrambling p) 0)) (not (in_place p))
      (eqb (control p) 2)
    where
      again : Bool
      again = is_repeat (memory_of s) p

      small : Bool
      small = ltb (length out) (length (joined r.sections))

      n : ℕ
      n = length (joined r.sections)

      go : (a b c d e f g : Bool)
          → completing.answer_by
          (unpacker.verdict_on
          (if a then Err NotAPacket else
          if b then Err NoSyncByte else
          if c then (Ok Damaged) else
          if d then Err OtherPid else
          if e then Err Scrambled else
          if f then Err PastPacket else
          if g then (Ok Skipped) else
          Ok Carrying)
          (length out) (memory_of s) p)
          ≡ (if a then Err NotAPacket else
          if b then Err NoSyncByte else
          if not c && d then Err OtherPid else
          if not c && e then Err Scrambled else
          if not c && f then Err PastPacket else
          if not c && (not g && not again) && small then Err OutputTooSmall else
          if c then Ok 0 else if g then Ok 0 else if again then Ok 0 else Ok n)
      go true b c d e f g = refl
      go false true c d e f g = refl
      go false false true d e f g = refl
      go false false false true e f g = refl
      go false false false false true f g = refl
      go false false false false false true g = refl
      go false false false false false false true = refl
      go false false false false false false false = taken

  pub unpacker_as_listed : AsListed Err IsSections (unpacker_lines s p out) (completing.completed_of s p out)
  unpacker_as_listed = rw tells (by_lines Err IsSections unpack_told (unpacker_lines s p out) value value_is)
