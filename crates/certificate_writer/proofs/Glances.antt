-- What a glance's tests say of each part of a certificate table's form: its format lays it out, in so many bytes.
use Prim.Native.Nat.{ℕ, zero, suc, ◌+◌, ◌-◌, ◌*◌, ◌^◌, ◌≤◌, ◌<◌}
use mathlib.Core.Path.{◌≡◌, refl}
use mathlib.Core.List.{List}
use native.Mathlib.Omega.{arith}
use lib.ListN.{length, get_or}
use Rattle.ground_refusal.specs.declared.Refusal.TheVariants.{LeftOver}
use Rattle.body_formats.specs.Format.{times, opaque}
use Rattle.body_form_glance.specs.Lays.{Lays, Told}
use Rattle.body_form_glance.proofs.Forms.{lays_pair, lays_view, lays_exact, lays_to, lays_count}
use Rattle.body_form_glance.proofs.Rows.{lays_list}
use Rattle.certificate.specs.Certificate.{parts, named, unnamed, fields, certificate}

-- a length of at most two bytes counts below this
pub limit_most : (w : ℕ) {limit : ℕ} → w ≤ 2 → limit ≡ 256 ^ w → limit ≤ 65536
limit_most zero h e = omega arith
limit_most (suc zero) h e = omega arith
limit_most (suc (suc zero)) h e = omega arith
limit_most (suc (suc (suc w))) h e = absurd (omega arith)

-- a list of parts after its count, which is one byte
pub list_laid : (pool tape : List ℕ) (k w : ℕ) {r : ℕ} → k < length tape → get_or tape k 0 ≤ 255
    → ((m : ℕ) → r ≡ suc m → (xs : List (List ℕ)) × Lays (times (get_or tape k 0) (opaque w)) pool tape (k + 1) xs (k + 1 + get_or tape k 0 * 2) m)
    → Told (parts w) pool tape k (k + 1 + get_or tape k 0 * 2) r
list_laid pool tape k w {r} h s g some =
    let them = g (r - 1) (omega arith) in
    (_, lays_to refl (omega arith) (lays_list (opaque w) (lays_count refl h 1 (omega arith)) them.1))

-- a list of parts that begins at k has at most 255, and they stand on the tape
abbrev pub Stands : List ℕ → ℕ → Type 0
Stands tape k = (get_or tape k 0 ≤ 255) × (k + 1 + get_or tape k 0 * 2 ≤ length tape)

-- the three fields one after the other, under their names
pub certificate_laid : {pool tape : List ℕ} {k j a b c : ℕ} → 0 < a → 0 < b → 0 < c → Told (parts 2) pool tape 0 k a → Told (parts 1) pool tape k j b
    → Told (opaque 2) pool tape j (length tape) c → Told certificate pool tape 0 (length tape) (a + b + c)
unfolding certificate fields
certificate_laid ha hb hc ga gb gc h =
    (_, lays_exact LeftOver (lays_view named unnamed refl (lays_to refl (omega arith) (lays_pair (ga ha).1 (lays_pair (gb hb).1 (gc hc).1)))))
