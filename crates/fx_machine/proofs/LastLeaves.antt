-- What came last at a place leaves it, and the place is as it was.
use Rattle.std.proofs.Common.{◌≡◌, ℕ, zero, suc, ◌<◌, List, [], ◌∷◌, ◌++◌, length, Some, refl, sym, ap, ◌∙◌, subst, arith, slice_get, slice_set, remove, le_of_suc-le-suc}
use Rattle.fx_tables.specs.declared.packet.Packet.{Packet}
use Rattle.fx_tables.specs.declared.record.Record.{Record}
use Rattle.fx_tables.specs.Network.{Net}
use Rattle.fx_tables.specs.Classes.{Class}
use Rattle.fx_machine.specs.States.{State, put_last, without}
use Rattle.fx_machine.specs.Steps.{acts_of_leaving, acts_of_arrival}
use Rattle.fx_machine.specs.Moves.{MayDoAll, Moves, expires, arrives}
use Rattle.fx_tables.specs.Runnable.{IsHolder}

-- what stands at a place that is there
pub there : {A : Type 0} (xs : List A) (n : ℕ) → n < length xs → (x : A) × (slice_get xs n ≡ Some x)
there [] n lt = absurd (omega arith)
there (x ∷ xs) zero lt = (x, refl)
there (x ∷ xs) (suc n) lt = there xs n (le_of_suc-le-suc lt)

last_here : {A : Type 0} (xs : List A) (x : A) → slice_get (xs ++ x ∷ []) (length xs) ≡ Some x
last_here [] x = refl
last_here (y ∷ ys) x = last_here ys x

last_removed : {A : Type 0} (xs : List A) (x : A) → remove (xs ++ x ∷ []) (length xs) ≡ xs
last_removed [] x = refl
last_removed (y ∷ ys) x = ap (λ vs. y ∷ vs) (last_removed ys x)

pub put_is_set : (rss : List (List Record)) (n : ℕ) (rs : List Record) (r : Record) → slice_get rss n ≡ Some rs
    → put_last rss n r ≡ slice_set rss n (rs ++ r ∷ [])
put_is_set [] n rs r h = absurd (cc)
put_is_set (ss ∷ rss) zero rs r h = let e : ss ≡ rs = cc in ap (λ vs. (vs ++ r ∷ []) ∷ rss) e
put_is_set (ss ∷ rss) (suc n) rs r h = ap (λ vs. ss ∷ vs) (put_is_set rss n rs r h)

put_here : (rss : List (List Record)) (n : ℕ) (rs : List Record) (r : Record) → slice_get rss n ≡ Some rs
    → slice_get (put_last rss n r) n ≡ Some (rs ++ r ∷ [])
put_here [] n rs r h = absurd (cc)
put_here (ss ∷ rss) zero rs r h = let e : ss ≡ rs = cc in ap (λ vs. Some (vs ++ r ∷ [])) e
put_here (ss ∷ rss) (suc n) rs r h = put_here rss n rs r h

put_back : (rss : List (List Record)) (n : ℕ) (rs : List Record) (r : Record) → slice_get rss n ≡ Some rs
    → slice_set (put_last rss n r) n (without (rs ++ r ∷ []) (suc (length rs))) ≡ rss
put_back rss n rs r h = ap (slice_set (put_last rss n r) n) (last_removed rs r) ∙ go rss n h
  where
    go : (rss : List (List Record)) (n : ℕ) → slice_get rss n ≡ Some rs → slice_set (put_last rss n r) n rs ≡ rss
    go [] n h = absurd (cc)
    go (ss ∷ rss) zero h = let e : rs ≡ ss = cc in ap (λ vs. vs ∷ rss) e
    go (ss ∷ rss) (suc n) h = ap (λ vs. ss ∷ vs) (go rss n h)

module _ (net : Net) (classes : List Class) (packets : List Packet) where
  pub leaves_holder : (holder : ℕ) → IsHolder net holder → (rs : List Record) (r : Record) (s new : State)
      → slice_get s.held holder ≡ Some rs → MayDoAll net r.counts (acts_of_leaving net holder r.key) s new
      → Moves net classes packets (record s { held = put_last s.held holder r }) new
  leaves_holder holder h rs r s new at may =
      expires h.name holder (suc (length rs)) (rs ++ r ∷ []) r h.named (put_here s.held holder rs r at) (last_here rs r)
      (subst (λ (rss : List (List Record)). MayDoAll net r.counts (acts_of_leaving net holder r.key)
      (record s { held = rss }) new) (sym (put_back s.held holder rs r at)) may)

  pub leaves_link : (link : ℕ) (rs : List Record) (r : Record) (s new : State) → slice_get s.carried link ≡ Some rs
      → MayDoAll net r.counts (acts_of_arrival net r.key (slice_get net.links link)) s new
      → Moves net classes packets (record s { carried = put_last s.carried link r }) new
  leaves_link link rs r s new at may =
      arrives link (suc (length rs)) (rs ++ r ∷ []) r (put_here s.carried link rs r at) (last_here rs r)
      (subst (λ (rss : List (List Record)). MayDoAll net r.counts
      (acts_of_arrival net r.key (slice_get net.links link)) (record s { carried = rss }) new)
      (sym (put_back s.carried link rs r at)) may)
