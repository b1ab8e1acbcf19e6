-- What a reader has to believe of demand 3 for each of two networks: the account of what it was fed, told by its calls and their answers, and what handing
-- out has to do with it.
use Rattle.std.specs.Prelude.{ℕ, ◌≤◌, ◌≡◌, List, [], ◌∷◌, length, if◌then◌else◌, Ok}
use Rattle.std.proofs.Math.Option.{some}
use Rattle.ground_placing.specs.Placed.{placed}
use Rattle.gathering_account.specs.Account.{Account, idle, Complete, body_of}
use Rattle.gathering_account.specs.Gathers.{Fixes}
use Rattle.rooms_state.specs.State.{Network, mine}
use Rattle.rooms_hand_out.specs.Handing.{handed_of, out_after}
use Rattle.rooms_account.specs.Alone.{Call, feeding, handing_out, ending, account_fed}
use Rattle.rooms_account.specs.Runs.{Box, Asked, next, owns, free_for}

-- the account of network i after one of its calls: "a section refused for room counts as not fed", the end forgets all
unfoldable pub account_at : Network → Box → Account → Call → Account
account_at i x a (feeding s) = account_fed a s (free_for i x (feeding s))
account_at i x a (handing_out out) = a
account_at i x a ending = idle

-- and after a run: calls of the other network, and of none, are nothing to it
unfoldable pub account_of : Network → Box → Account → List Asked → Account
account_of i x a [] = a
account_of i x a (c ∷ asked) = account_of i (next x c) (if owns i c then account_at i x a c.call else a) asked

-- this body is handed out, "at the start of the output; bytes after it stay"
pub record HandsOut (i : Network) (x : Box) (out body : List ℕ) : Type 0 where
  pub answers : handed_of (some i) x.state x.store out ≡ Ok (length body)
  pub writes : out_after (some i) x.state x.store out ≡ placed out 0 body

-- demand 3, of a network, the account of what it was fed, and any output
pub record Gathers (i : Network) (a : Account) (x : Box) (out : List ℕ) : Type 0 where
  -- the state knows the table that the account has fixed
  pub fixed : Fixes a (mine i x.state).gathering
  -- "a body is handed out exactly when" the account is complete: only then,
  pub only_when : (n : ℕ) → handed_of (some i) x.state x.store out ≡ Ok n → Complete a
  -- and then, if the output has room for it;
  pub when : Complete a → length (body_of a) ≤ length out → HandsOut i x out (body_of a)
  -- "and it is their contents in number order"
  pub body_is : (n : ℕ) → handed_of (some i) x.state x.store out ≡ Ok n → HandsOut i x out (body_of a)
