-- A line over which a token was shown.
use Rattle.std.proofs.Common.{◌≡◌, ℕ, List, [], Option, Some, None, sym, subst}
use Rattle.mvd_client.proofs.Fresh.{fresh_is_true}
use Rattle.mvd_client.specs.LetIn.{GivesIn, IsLetIn}
use Rattle.mvd_client.specs.SyncsAt.{AreTrue}
use Rattle.mvd_remote.specs.Lines.{IsTrueRemote}
use Rattle.mvd_remote.specs.declared.line.Line.{Ghosts}

module _ {L : Type 0} (line : Ghosts L) where
  -- a true line over which no reply is due
  abbrev IsFree : L → Type 0
  IsFree at = line.is_true at × ((line.far at).due ≡ [])

  pub in_free : (token : Option (List ℕ)) (fresh opened : L) → IsFree fresh → IsLetIn line token fresh opened → IsFree opened
  in_free None fresh opened free is = subst IsFree (sym is) free
  in_free (Some token) fresh opened free (after, is, left) =
      let true_before : IsTrueRemote line.is_true line.far is.before =
      fresh_is_true line.is_true line.far is.before (subst line.is_true (sym is.at_line) free.0) (subst (λ at. (line.far at).due ≡ []) (sym is.at_line) free.1) is.goes_on in
      let true_after : IsTrueRemote line.is_true line.far after = (is.truth true_before).0 in
      subst IsFree (sym left) (true_after.line, true_after.step is.asked.2.1)

  -- where the lines of an address are true, so are those that come of them
  pub are_true_in : (gives : L → Type 0) (token : Option (List ℕ)) → AreTrue line gives → AreTrue line (GivesIn line gives token)
  are_true_in gives token true opened given = in_free token given.0 opened (true given.0 given.1) given.2
