-- Tags are passed over one after another.
use Rattle.std.proofs.Common.{◌≡◌, ℕ, ◌≤◌, ◌<◌, Bool, true, false, cond, List, [], ◌∷◌, length, drop, refl, ap, arith}
use Rattle.fx_pcap.specs.Numbers.{network}
use Rattle.fx_pcap.specs.Frames.{is_tag, after_tags}

pub tag_passed : (xs : List ℕ) → 4 ≤ length xs → is_tag (network 2 0 xs) ≡ true → after_tags xs ≡ after_tags (drop 4 xs)
tag_passed [] long h = absurd (omega arith)
tag_passed (a ∷ []) long h = absurd (omega arith)
tag_passed (a ∷ b ∷ []) long h = absurd (omega arith)
tag_passed (a ∷ b ∷ c ∷ []) long h = absurd (omega arith)
tag_passed (a ∷ b ∷ c ∷ d ∷ xs) long h = ap (λ (t : Bool). cond t (after_tags xs) (a ∷ b ∷ c ∷ d ∷ xs)) h

pub no_tag : (xs : List ℕ) → is_tag (network 2 0 xs) ≡ false → after_tags xs ≡ xs
no_tag [] h = refl
no_tag (a ∷ []) h = refl
no_tag (a ∷ b ∷ []) h = refl
no_tag (a ∷ b ∷ c ∷ []) h = refl
no_tag (a ∷ b ∷ c ∷ d ∷ xs) h = ap (λ (t : Bool). cond t (after_tags xs) (a ∷ b ∷ c ∷ d ∷ xs)) h

pub short_of_tag : (xs : List ℕ) → length xs < 4 → after_tags xs ≡ xs
short_of_tag [] h = refl
short_of_tag (a ∷ []) h = refl
short_of_tag (a ∷ b ∷ []) h = refl
short_of_tag (a ∷ b ∷ c ∷ []) h = refl
short_of_tag (a ∷ b ∷ c ∷ d ∷ xs) h = absurd (omega arith)
