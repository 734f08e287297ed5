-- A source that is read piece by piece.
use Rattle.std.proofs.Common.{◌≡◌, ℕ, zero, suc, false, nat_lt, ◌≤◌, List, [], ◌∷◌, ◌++◌, length, Option, Some, None, IfSome, refl, sym, ap, subst, ◌∙◌, arith}
use Rattle.std.proofs.lemmas.Bool.{lt-ltb, false≢true}
use Rattle.std.proofs.lemmas.List.{append-nil, length-append, take-append-drop}
use Rattle.std.specs.Io.KnownBytes.{prepend_known}
use Rattle.fx_base.specs.Device.{MayBeLeft, ReadsInto}

-- a piece is held, and what is left behind it
pub piece_held : (piece : List ℕ) (n room : ℕ) (old new : Option (List ℕ)) → ReadsInto old new room piece n
    → prepend_known piece new ≡ old
piece_held piece n room None new r = rw r refl
piece_held piece n room (Some octets) new r = rw (r.octets_are, r.rest) (ap Some (take-append-drop n octets))

pub no_piece : (piece : List ℕ) (n room : ℕ) (old new : Option (List ℕ)) → ReadsInto old new room piece n → n ≡ 0 → 1
    ≤ room → IfSome old (λ left. left ≡ [])
no_piece piece n room None new r none some = tt
no_piece piece n room (Some octets) new r none some = r.end none some

pub none_there : (n : ℕ) → nat_lt 0 n ≡ false → n ≡ 0
none_there zero none = refl
none_there (suc n) some = absurd (false≢true (sym some ∙ lt-ltb 0 (suc n) (omega arith)))

module _ (held piece : List ℕ) (old now new : Option (List ℕ)) (before : prepend_known held now ≡ old)
    (read : prepend_known piece new ≡ now) where
  pub stays_opaque : old ≡ None → new ≡ None
  stays_opaque none = by new read where
    by : (o : Option (List ℕ)) → prepend_known piece o ≡ now → o ≡ None
    by None is = refl
    by (Some rest) is =
        let reported : Some (held ++ (piece ++ rest)) ≡ None = ap (prepend_known held) is ∙ before ∙ none in
        absurd (cc)

  pub all_held : IfSome now (λ left. left ≡ []) → MayBeLeft old held
  all_held end = subst (λ o. MayBeLeft o held) before (by now end) where
    by : (o : Option (List ℕ)) → IfSome o (λ left. left ≡ []) → MayBeLeft (prepend_known held o) held
    by None end = tt
    by (Some left) end = rw end (sym (append-nil held))

  pub read_to_end : IfSome now (λ left. left ≡ []) → IfSome old (λ _. new ≡ Some [])
  read_to_end end = subst (λ o. IfSome o (λ _. new ≡ Some [])) before (by now end read) where
    last : (p : List ℕ) (o : Option (List ℕ)) → prepend_known p o ≡ Some [] → o ≡ Some []
    last p None is = absurd (cc)
    last [] (Some rest) is = is
    last (b ∷ bs) (Some rest) is = absurd (cc)

    by : (o : Option (List ℕ)) → IfSome o (λ left. left ≡ []) → prepend_known piece new ≡ o
        → IfSome (prepend_known held o) (λ _. new ≡ Some [])
    by None end is = tt
    by (Some left) end is = last piece new (is ∙ ap Some end)

  pub held_at_most : (n : ℕ) → n ≤ length held → IfSome old (λ octets. n ≤ length octets)
  held_at_most n le = subst (λ o. IfSome o (λ octets. n ≤ length octets)) before (by now) where
    by : (o : Option (List ℕ)) → IfSome (prepend_known held o) (λ octets. n ≤ length octets)
    by None = tt
    by (Some left) = omega (arith, le, length-append held left)
