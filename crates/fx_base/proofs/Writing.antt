-- Octets that a sink takes in several writes.
use Rattle.std.proofs.Common.{◌≡◌, ℕ, ◌+◌, ◌-◌, ◌≤◌, length, arith, List, [], ◌++◌, take, drop, Option, Some, None, Result, Ok, Err, OnOk, Bool, refl, sym, ap, subst, ◌∙◌, append_assoc}
use Rattle.std.proofs.lemmas.List.{append-nil, take-take, length-take}
use Rattle.std.proofs.Math.Seq.{take-add}
use Rattle.fx_base.specs.Device.{Writes, KeepsGoing}

pub writes_nothing : (o : Option (List ℕ)) → Writes o o []
writes_nothing None = refl
writes_nothing (Some xs) = ap Some (sym (append-nil xs))

pub writes_both : (a b c : Option (List ℕ)) (xs ys zs : List ℕ) → Writes a b xs → Writes b c ys → xs ++ ys ≡ zs
    → Writes a c zs
writes_both None b c xs ys zs h k e = subst (λ (o : Option (List ℕ)). Writes o c ys) h k
writes_both (Some old) b c xs ys zs h k e =
    let later : c ≡ Some ((old ++ xs) ++ ys) = subst (λ (o : Option (List ℕ)). Writes o c ys) h k in
    later ∙ ap Some (append_assoc old xs ys ∙ ap (λ (l : List ℕ). old ++ l) e)

-- the octets behind the first d, and those before them
pub part_next : (text : List ℕ) (d n : ℕ) → n ≤ length (take (length text - d) (drop d text)) → take d text
    ++ take n (take (length text - d) (drop d text)) ≡ take (d + n) text
part_next text d n fits =
    let room : n ≤ length text - d = omega (arith, fits, length-take (length text - d) (drop d text)) in
    rw (take-take n (length text - d) (drop d text) room) (sym (take-add d n text))

-- ---- writes, one after another

pub writes_2 : {A E : Type 0} (r : Result A E) (t u v : Option (List ℕ)) (a b all : List ℕ) → Writes t u a
    → OnOk r (Writes u v b) → all ≡ a ++ b → OnOk r (Writes t v all)
writes_2 (Ok x) t u v a b all h k e = writes_both t u v a b all h k (sym e)
writes_2 (Err x) t u v a b all h k e = tt

pub writes_3 : {A E : Type 0} (r : Result A E) (t u v w : Option (List ℕ)) (a b c all : List ℕ) → Writes t u a
    → Writes u v b → OnOk r (Writes v w c) → all ≡ a ++ (b ++ c) → OnOk r (Writes t w all)
writes_3 r t u v w a b c all h k l e = writes_2 r t u w a (b ++ c) all h (writes_2 r u v w b c (b ++ c) k l refl) e

pub writes_4 : {A E : Type 0} (r : Result A E) (t u v w x : Option (List ℕ)) (a b c d all : List ℕ) → Writes t u a
    → Writes u v b → Writes v w c → OnOk r (Writes w x d) → all ≡ a ++ (b ++ (c ++ d)) → OnOk r (Writes t x all)
writes_4 r t u v w x a b c d all h k l m e =
    writes_2 r t u x a (b ++ (c ++ d)) all h
    (writes_2 r u v x b (c ++ d) (b ++ (c ++ d)) k (writes_2 r v w x c d (c ++ d) l m refl) refl) e

pub writes_5 : {A E : Type 0} (r : Result A E) (t u v w x y : Option (List ℕ)) (a b c d f all : List ℕ) → Writes t u a
    → Writes u v b → Writes v w c → Writes w x d → OnOk r (Writes x y f) → all ≡ a ++ (b ++ (c ++ (d ++ f)))
    → OnOk r (Writes t y all)
writes_5 r t u v w x y a b c d f all h k l m n e =
    writes_2 r t u y a (b ++ (c ++ (d ++ f))) all h (writes_4 r u v w x y b c d f (b ++ (c ++ (d ++ f))) k l m n refl) e

pub writes_then : {A E : Type 0} (r : Result A E) (t u v : Option (List ℕ)) (a b : List ℕ) → Writes t u a
    → OnOk r (Writes u v b) → OnOk r (Writes t v (a ++ b))
writes_then r t u v a b h k = writes_2 r t u v a b (a ++ b) h k refl

pub going_then : {A E : Type 0} (r : Result A E) (f g h : Bool) → KeepsGoing f g → OnOk r (KeepsGoing g h)
    → OnOk r (KeepsGoing f h)
going_then (Ok _) f g h first next = λ going. next (first going)
going_then (Err _) f g h first next = tt
