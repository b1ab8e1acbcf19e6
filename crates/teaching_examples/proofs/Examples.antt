-- A run of feeds to the slow gathering, computed by the checker: answers, headings, missing numbers and bodies are those of an independent program,
-- tests/second_teaching.py. Each rule comes once: repeats and refused strings are kept, a newer version takes over, another payload contradicts, the last
-- feed finds the buffer full.
use Prim.Native.Nat.{ℕ, ◌+◌, ◌*◌}
use Rattle.std.specs.Prelude.{Result, Ok, Err}
use Rattle.section_reader.specs.declared.Heading.{Heading}
use mathlib.Core.Bool.{xor}
use mathlib.Core.List.{List, [], ◌∷◌}
use mathlib.Core.Path.{◌≡◌, refl}
use lib.ListN.{replicate}
use Rattle.crc_register.specs.Register.{odd, bits_of, digit, value, bytes_bits, plus, fed as fed_bit, step, run as run_bits, crc}
use Rattle.crc.specs.Crc.{crc32_of}
use Rattle.ground_placing.specs.Placed.{placed}
use Rattle.ground_refusal.specs.Numbers.{refusal_number, refusal_place}
use Rattle.ground_refusal.specs.declared.Refusal.{Refusal}
use Rattle.ground_equal.specs.Same.{same_bytes}
use Rattle.section_reader.specs.Section.{is_kind, word, section_length, fixed_bits, heading_of, payload_of, read_section}
use Rattle.gathering_state.specs.State.{has_room}
use Rattle.gathering_tables.specs.Tables.{steps_ahead, same_table, is_newer}
use Rattle.gathering_feed.specs.declared.Answer.{Answer}
use Rattle.gathering_feed.specs.declared.Answer.TheVariants.{Taken, HeldAlready}
use Rattle.gathering_hand_out.specs.Handing.{handed_if_room}
use Rattle.gathering_account.specs.Account.{heard_as, heard, begun, account_after, account, contents_of, in_order}
use Rattle.gathering_account.specs.Answering.{present, contradicts, differs, agreeing, calm_from, undisputed}
use Rattle.gathering_account.specs.Answering.{answer_of_table, answer_of_first, answer_of_good, answer_of_read, answer_to}
use Rattle.body_formats.specs.Format.{number_at, bytes_of}
use Rattle.teaching_rows.specs.Rows.{row, rows, length_in, row_begins, strings_first, strings_in, whole_rows, whole_in_use}
use Rattle.teaching_questions.specs.Questions.{absent_from, absent_count}
use Rattle.teaching_table.specs.Table.{account_in}
use Rattle.teaching_feed.specs.Feeding.{row_fits, answer_of, keeps, used_after, buffer_after}
use Rattle.teaching_hand_out.specs.Asking as asking
use Rattle.teaching_account.specs.Lockstep.{Slow, fresh_slow, slow_answer, slow_feed}

-- ---- answers as numbers: a refusal as 1,000 and its number, its place a hundredfold

abbrev refused : Refusal → ℕ
refused r = 1000 + refusal_number r + 100 * refusal_place r

-- 0 taken, 1 held already
abbrev fed : Result Answer Refusal → ℕ
fed (Ok Taken) = 0
fed (Ok HeldAlready) = 1
fed (Err r) = refused r

-- the version
abbrev version : Result Heading Refusal → ℕ
version (Ok t) = t.version
version (Err r) = refused r

abbrev missing : Result (ℕ × ℕ) Refusal → ℕ
missing (Ok (n, k)) = n
missing (Err r) = refused r

-- the body's length
abbrev handed : Result ℕ Refusal → ℕ
handed (Ok n) = n
handed (Err r) = refused r

-- two sections fit the quick one's store
abbrev store : ℕ
store = 8168

-- what is told by what is kept
abbrev asked : Slow → List ℕ → List ℕ
asked slow more =
    version (asking.heading_of slow.buffer slow.used store)
    ∷ missing (asking.lacking_of slow.buffer slow.used store)
    ∷ handed (asking.handed_of slow.buffer slow.used store (replicate 9 0))
    ∷ slow.used
    ∷ more

abbrev answered : Slow → List (List ℕ) → List ℕ
answered slow [] = []
answered slow (s ∷ strings) = fed (slow_answer store slow s) ∷ asked (slow_feed slow s) (answered (slow_feed slow s) strings)

-- ---- the strings

-- a section that fixes the table, version 3
abbrev first : List ℕ
first = 253 ∷ 240 ∷ 10 ∷ 0 ∷ 7 ∷ 199 ∷ 0 ∷ 1 ∷ 17 ∷ 106 ∷ 165 ∷ 4 ∷ 2 ∷ []

-- a bit of it is turned
abbrev damaged : List ℕ
damaged = 253 ∷ 240 ∷ 10 ∷ 0 ∷ 7 ∷ 199 ∷ 0 ∷ 1 ∷ 16 ∷ 106 ∷ 165 ∷ 4 ∷ 2 ∷ []

-- version 4 takes over
abbrev newer : List ℕ
newer = 253 ∷ 240 ∷ 10 ∷ 0 ∷ 7 ∷ 201 ∷ 1 ∷ 1 ∷ 33 ∷ 134 ∷ 74 ∷ 57 ∷ 195 ∷ []

-- version 5, whose three sections the store has no room for
abbrev too_long : List ℕ
too_long = 253 ∷ 240 ∷ 9 ∷ 0 ∷ 7 ∷ 203 ∷ 0 ∷ 2 ∷ 111 ∷ 144 ∷ 146 ∷ 138 ∷ []

-- version 4 with another payload
abbrev differing : List ℕ
differing = 253 ∷ 240 ∷ 10 ∷ 0 ∷ 7 ∷ 201 ∷ 1 ∷ 1 ∷ 34 ∷ 139 ∷ 9 ∷ 31 ∷ 26 ∷ []

-- version 4, after the contradiction
abbrev after_it : List ℕ
after_it = 253 ∷ 240 ∷ 10 ∷ 0 ∷ 7 ∷ 201 ∷ 0 ∷ 1 ∷ 35 ∷ 142 ∷ 16 ∷ 174 ∷ 42 ∷ []

-- version 6 starts over, and is whole
abbrev newest : List ℕ
newest = 253 ∷ 240 ∷ 10 ∷ 0 ∷ 7 ∷ 205 ∷ 0 ∷ 0 ∷ 49 ∷ 101 ∷ 111 ∷ 195 ∷ 237 ∷ []

abbrev strings : List (List ℕ)
strings = first ∷ first ∷ damaged ∷ newer ∷ too_long ∷ differing ∷ after_it ∷ newest ∷ newest ∷ []

-- of each feed: the answer, then version, missing, handed out and the bytes in use; by the second program
abbrev answers : List ℕ
answers =
    0 ∷ 3 ∷ 1 ∷ 1113 ∷ 21
    ∷ 1 ∷ 3 ∷ 1 ∷ 1113 ∷ 42
    ∷ 1007 ∷ 3 ∷ 1 ∷ 1113 ∷ 63
    ∷ 0 ∷ 4 ∷ 1 ∷ 1013 ∷ 84
    ∷ 1010 ∷ 4 ∷ 1 ∷ 1013 ∷ 104
    ∷ 1011 ∷ 4 ∷ 1 ∷ 1011 ∷ 125
    ∷ 1011 ∷ 4 ∷ 1 ∷ 1011 ∷ 146
    ∷ 0 ∷ 6 ∷ 0 ∷ 1 ∷ 167
    ∷ 1037 ∷ 6 ∷ 0 ∷ 1 ∷ 167
    ∷ []

-- ---- the checker's answers are these

pub computed : answered (fresh_slow (replicate 172 0)) strings ≡ answers
unfolding odd bits_of digit value bytes_bits plus fed_bit step run_bits crc crc32_of xor placed is_kind word section_length fixed_bits heading_of payload_of read_section
    same_bytes has_room steps_ahead same_table is_newer handed_if_room heard_as heard begun account_after account contents_of in_order
    present contradicts differs agreeing calm_from undisputed answer_of_table answer_of_first answer_of_good answer_of_read answer_to number_at bytes_of
    row rows length_in row_begins strings_first strings_in whole_rows whole_in_use absent_from absent_count account_in row_fits answer_of keeps used_after buffer_after
    asking.headed_to asking.lacking_table asking.lacking_to asking.handed_table asking.handed_to asking.heading_of asking.lacking_of asking.handed_of
    fresh_slow slow_feed
computed = refl
