-- What is held of a source, and what it has left.
use Rattle.std.proofs.Common.{◌≡◌, ℕ, List, ◌++◌, Option, Some, None, refl, ap, ◌∙◌, append_assoc}
use Rattle.std.specs.Io.KnownBytes.{prepend_known}

-- a piece that was read is held in place of left
pub read_more : (held piece : List ℕ) (old new : Option (List ℕ)) → prepend_known piece new ≡ old
    → prepend_known (held ++ piece) new ≡ prepend_known held old
read_more held piece old None is = rw (← is) refl
read_more held piece old (Some left) is = rw (← is) (ap Some (append_assoc held piece left))

-- the octets of a source are reported as they were, whatever of them is held
pub opaque_after : (front held behind : List ℕ) (left left' : Option (List ℕ)) → prepend_known held left'
    ≡ prepend_known front left → prepend_known front left ≡ None → prepend_known behind left' ≡ None
opaque_after front held behind left None same none = refl
opaque_after front held behind left (Some l) same none = let no : Some (held ++ l) ≡ None = same ∙ none in absurd (cc)
