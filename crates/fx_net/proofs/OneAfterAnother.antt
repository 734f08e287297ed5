-- One thing after another.
use Rattle.std.proofs.Common.{◌≡◌, Bool, true, false, List, [], ◌∷◌, ◌++◌, refl, subst}
use Rattle.fx_link.specs.Links.{Put}
use Rattle.fx_net.specs.Contents.{Contents}
use Rattle.fx_net.specs.Doings.{Doing, Each, Where}

-- some things, and then others
pub each_join : {A : Type 0} (do_ : A → Doing) (xs ys : List A) (before : Put) (old : Contents) (put : Put)
    (mid : Contents) (after : Put) (new : Contents)
    → Each do_ xs before old put mid → Each do_ ys put mid after new → Each do_ (xs ++ ys) before old after new
each_join do_ [] ys before old put mid after new e f =
    subst (λ (p : Put). Each do_ ys p old after new) e.0 (subst (λ (c : Contents). Each do_ ys put c after new) e.1 f)
each_join do_ (x ∷ xs) ys before old put mid after new e f =
    (e.0, e.1, e.2, each_join do_ xs ys e.0 e.1 put mid after new e.3 f)

-- what completes the rest completes the whole
abbrev pub Completes : {A : Type 0} → (A → Doing) → List A → Put → Contents → List A → Put → Contents → Type 0
Completes do_ all before old rest put mid = (after : Put) (new : Contents) → Each do_ rest put mid after new
    → Each do_ all before old after new

-- one more is done
pub completes_one : {A : Type 0} (do_ : A → Doing) (all : List A) (before : Put) (old : Contents) (x : A)
    (rest : List A) (put : Put) (mid : Contents) (put2 : Put) (mid2 : Contents)
    → Completes do_ all before old (x ∷ rest) put mid → do_ x put mid put2 mid2
    → Completes do_ all before old rest put2 mid2
completes_one do_ all before old x rest put mid put2 mid2 goes e after new more = goes after new (put2, mid2, e, more)

-- some more are done
pub completes_some : {A : Type 0} (do_ : A → Doing) (all : List A) (before : Put) (old : Contents) (xs rest : List A)
    (put : Put) (mid : Contents) (put2 : Put) (mid2 : Contents)
    → Completes do_ all before old (xs ++ rest) put mid → Each do_ xs put mid put2 mid2
    → Completes do_ all before old rest put2 mid2
completes_some do_ all before old xs rest put mid put2 mid2 goes e after new more =
    goes after new (each_join do_ xs rest put mid put2 mid2 after new e more)

-- one more is done where what is left begins with it
pub completes_next : {A : Type 0} (do_ : A → Doing) (all : List A) (before : Put) (old : Contents) (left : List A)
    (x : A) (rest : List A) (put : Put) (mid : Contents) (put2 : Put) (mid2 : Contents)
    → left ≡ x ∷ rest → Completes do_ all before old left put mid → do_ x put mid put2 mid2
    → Completes do_ all before old rest put2 mid2
completes_next do_ all before old left x rest put mid put2 mid2 is goes e =
    completes_one do_ all before old x rest put mid put2 mid2
    (subst (λ (xs : List _). Completes do_ all before old xs put mid) is goes) e

-- all is done
pub completed : {A : Type 0} (do_ : A → Doing) (all : List A) (before : Put) (old : Contents) (put : Put)
    (mid : Contents)
    → Completes do_ all before old [] put mid → Each do_ all before old put mid
completed do_ all before old put mid goes = goes put mid (refl, refl)

-- all is done where no more is left
pub completed_by : {A : Type 0} (do_ : A → Doing) (all rest : List A) (before : Put) (old : Contents) (put : Put)
    (mid : Contents)
    → rest ≡ [] → Completes do_ all before old rest put mid → Each do_ all before old put mid
completed_by do_ all rest before old put mid none goes =
    completed do_ all before old put mid (subst (λ (xs : List _). Completes do_ all before old xs put mid) none goes)

-- ---- only where something is so

pub where_so : (t : Bool) (do_ : Doing) (before : Put) (old : Contents) (after : Put) (new : Contents) → t ≡ true
    → do_ before old after new → Where t do_ before old after new
where_so true do_ before old after new e h = h
where_so false do_ before old after new e h = absurd cc

pub where_not : (t : Bool) (do_ : Doing) (before : Put) (old : Contents) → t ≡ false → Where t do_ before old before old
where_not true do_ before old e = absurd cc
where_not false do_ before old e = (refl, refl)
