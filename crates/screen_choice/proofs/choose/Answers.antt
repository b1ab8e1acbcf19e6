-- `screen_choice::choose` meets its contract: code, instant and body are refused in this order, and an accepted body's messages are walked.
use Prim.Native.Nat.{ℕ}
use mathlib.Core.Path.{◌≡◌, sym, ap, ◌∙◌}
use Rattle.promises.proofs.Exits.{passed_on}
use Rattle.crc.specs.Crc.{AreBytes}
use Rattle.screen_choice.specs.Walk.{worth_of}
use Rattle.screen_choice.proofs.Chosen.{holds, tabled, choice_no_code, choice_no_instant, choice_refused, choice_walked}
use Rattle.screen_choice.proofs.choose.Goals as goal

pub returns-then-not-is_code : goal.returns-then-not-is_code
returns-then-not-is_code c = choice_no_code _ _ _ _ (sym c.is_code.ensures ∙ c.if-not-is_code.true)

pub returns-then-not-is_instant : goal.returns-then-not-is_instant
returns-then-not-is_instant c = choice_no_instant _ _ _ _ (sym c.is_code.ensures ∙ c.if-not-is_code.false)
    (sym c.is_instant.ensures ∙ c.if-not-is_instant.true)

pub pack-own-requires : goal.pack-own-requires
pack-own-requires c = sym c.is_code.ensures ∙ c.if-not-is_code.false

pub walked-requires : goal.walked-requires
walked-requires c = let args = c.args in
    let bytes : AreBytes args.s.now = record { byte = λ i. (c.type_inv.s i).fits } in
    let h = holds _ _ bytes _ (sym c.in_ok-read.was ∙ c.read.ensures) in
    let code = sym c.is_code.ensures ∙ c.if-not-is_code.false in (
      args.code.now,
      h.0.messages,
      tabled _ _ bytes _ _ _ h.0 h.2 (c.worth_of-count.ensures ∙ ap worth_of c.message_count.ensures) code
          c.pack-own.ensures,
    )

pub returns-in_err-read : goal.returns-in_err-read
returns-in_err-read c = passed_on c.from_residual.ensures ∙ choice_refused _ _ _ _ (sym c.is_code.ensures ∙ c.if-not-is_code.false)
    (sym c.is_instant.ensures ∙ c.if-not-is_instant.false) _ (sym c.in_err-read.was ∙ c.read.ensures)

pub returns : goal.returns
returns c = let bytes : AreBytes c.args.s.now = record { byte = λ i. (c.type_inv.s i).fits } in
    choice_walked _ _ _ _ (sym c.is_code.ensures ∙ c.if-not-is_code.false)
    (sym c.is_instant.ensures ∙ c.if-not-is_instant.false) bytes _ (sym c.in_ok-read.was ∙ c.read.ensures) _ _
    c.pack-own.ensures (c.worth_of-count.ensures ∙ ap worth_of c.message_count.ensures)
    c.walked.result
    c.walked.ensures _ c.choice_told.ensures
