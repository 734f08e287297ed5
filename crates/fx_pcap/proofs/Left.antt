-- What may be left of a source of which some octets are held.
use Rattle.std.proofs.Common.{◌≡◌, ℕ, List, [], ◌++◌, take, drop, Option, Some, None, IfSome, refl, sym, ap, ◌∙◌, subst, append_assoc}
use Rattle.std.proofs.lemmas.List.{append-nil, take-append-drop}
use Rattle.std.specs.Io.KnownBytes.{prepend_known}
use Rattle.fx_base.specs.Device.{MayBeLeft, MayHaveLeft}

-- with anything behind what is held, and with nothing behind it where the source has ended
pub held_and_more : (P : List ℕ → Type 0) (held : List ℕ) (left all : Option (List ℕ)) → prepend_known held left ≡ all
    → ((rest : List ℕ) → P (held ++ rest)) → MayHaveLeft all P
held_and_more P held None all is h = subst (λ o. MayHaveLeft o P) is (held ++ [], tt, h [])
held_and_more P held (Some rest) all is h = subst (λ o. MayHaveLeft o P) is (held ++ rest, refl, h rest)

pub held_alone : (P : List ℕ → Type 0) (held : List ℕ) (left all : Option (List ℕ)) → prepend_known held left ≡ all
    → IfSome left (λ l. l ≡ []) → P held → MayHaveLeft all P
held_alone P held None all is ended h = subst (λ o. MayHaveLeft o P) is (held, tt, h)
held_alone P held (Some rest) all is ended h =
    subst (λ o. MayHaveLeft o P) is (held, sym (ap (λ (l : List ℕ). held ++ l) ended ∙ append-nil held), h)

-- what may be left behind the first octets, and those
pub first_and_more : (n : ℕ) (held rest : List ℕ) (left : Option (List ℕ))
    → MayBeLeft (prepend_known (drop n held) left) rest → MayBeLeft (prepend_known held left) (take n held ++ rest)
first_and_more n held rest None h = tt
first_and_more n held rest (Some l) h =
    ap (λ (x : List ℕ). take n held ++ x) h ∙ sym (append_assoc (take n held) (drop n held) l)
    ∙ ap (λ (x : List ℕ). x ++ l) (take-append-drop n held)
