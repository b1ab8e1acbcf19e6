-- What the exit of a `?` returns, and what two equal answers hold, for the package above, which cites no other proofs of the library.
pub use Rattle.ground_refusal.proofs.Exits.{passed_on, ok_inj, ok_pair_inj, err_inj}
