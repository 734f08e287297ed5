-- Octets that are taken of those of a source.
use Rattle.std.proofs.Common.{◌≡◌, ℕ, List, [], ◌++◌, Option, Some, None, IfSome, refl, sym, ap, ◌∙◌, subst}
use Rattle.std.proofs.lemmas.List.{append-nil}
use Rattle.std.specs.Io.KnownBytes.{prepend_known}
use Rattle.fx_base.proofs.Reading.{read_more}
use Rattle.fx_base.specs.Device.{MayBeLeft}

-- some octets, and then others
pub taken_with : (text line : List ℕ) (old now new : Option (List ℕ)) → prepend_known line new ≡ now
    → prepend_known text now ≡ old → prepend_known (text ++ line) new ≡ old
taken_with text line old now new next before = read_more text line now new next ∙ before

-- all of them
pub nothing_behind : (taken : List ℕ) (old new : Option (List ℕ)) → prepend_known taken new ≡ old
    → IfSome new (λ rest. rest ≡ []) → MayBeLeft old taken
nothing_behind taken old None before end = rw (← before) tt
nothing_behind taken old (Some rest) before end = rw (← before) (rw end (sym (append-nil taken)))

-- and whatever may be left
pub left_behind : (taken rest : List ℕ) (old new : Option (List ℕ)) → prepend_known taken new ≡ old → MayBeLeft new rest
    → MayBeLeft old (taken ++ rest)
left_behind taken rest old None before left = rw (← before) tt
left_behind taken rest old (Some reported) before left =
    rw (← before) (ap (λ (o : List ℕ). taken ++ o) left)
