-- Links that put out what waits on them, one after another.
use Rattle.std.proofs.Common.{◌≡◌, ◌≢◌, ℕ, zero, suc, ◌+◌, ◌<◌, List, [], ◌∷◌, length, take, get_or, slice_get, Option, Some, None, refl, sym, ap, ◌∙◌, subst, arith, add-one, append-nil, le_of_suc-le-suc}
use Rattle.fx_base.specs.Device.{Writes}
use Rattle.fx_link.specs.Links.{Put, Puts}
use Rattle.fx_link.specs.Ongoing.{Ongoing, to_put}
use Rattle.fx_net.specs.Finishing.{HasRoom, PutsAll, to_put_on}

pub writes_nothing : (reported : Option (List ℕ)) → Writes reported reported []
writes_nothing None = refl
writes_nothing (Some octets) = ap Some (sym (append-nil octets))

-- where nothing was put out, all is as it was
wrote_nothing : (old new : Option (List ℕ)) → Writes old new [] → new ≡ old
wrote_nothing None new w = w
wrote_nothing (Some octets) new w = w ∙ ap Some (append-nil octets)

PutsTo : (ℕ → Option (List ℕ)) → (ℕ → Option (List ℕ)) → ℕ → List Ongoing → Type 0
PutsTo before after time links = (link : ℕ) → Writes (before link) (after link) (to_put_on time (slice_get links link))

next_put : (before mid after : ℕ → Option (List ℕ)) (time n : ℕ) (links : List Ongoing) (d : Ongoing) → n < length links
    → PutsTo before mid time (take n links)
    → Writes (mid n) (after n) (to_put time (get_or links n d)) → ((k : ℕ) → k ≢ n → after k ≡ mid k)
    → PutsTo before after time (take (suc n) links)
unfolding PutsTo
next_put before mid after time n [] d lt p here others link = absurd (omega arith)
next_put before mid after time zero (x ∷ xs) d lt p here others zero =
    subst (λ o. Writes o (after 0) (to_put time x)) (wrote_nothing (before 0) (mid 0) (p 0)) here
next_put before mid after time zero (x ∷ xs) d lt p here others (suc link) =
    subst (λ o. Writes (before (suc link)) o []) (sym (others (suc link) (λ e. omega (arith, e)))) (p (suc link))
next_put before mid after time (suc n) (x ∷ xs) d lt p here others zero =
    subst (λ o. Writes (before 0) o (to_put time x)) (sym (others 0 (λ e. omega (arith, e)))) (p 0)
next_put before mid after time (suc n) (x ∷ xs) d lt p here others (suc link) =
    next_put (λ k. before (suc k)) (λ k. mid (suc k)) (λ k. after (suc k)) time n xs d (le_of_suc-le-suc lt)
    (λ k. p (suc k)) here (λ k ne. others (suc k) (λ e. ne (omega (arith, e)))) link

-- one link more has room
rooms_more : (n : ℕ) (links : List Ongoing) (d : Ongoing) → n < length links
    → ((link : ℕ) → HasRoom (slice_get (take n links) link)) → HasRoom (Some (get_or links n d))
    → (link : ℕ) → HasRoom (slice_get (take (suc n) links) link)
rooms_more n [] d lt rooms room link = absurd (omega arith)
rooms_more zero (x ∷ xs) d lt rooms room zero = room
rooms_more zero (x ∷ xs) d lt rooms room (suc link) = tt
rooms_more (suc n) (x ∷ xs) d lt rooms room zero = rooms 0
rooms_more (suc n) (x ∷ xs) d lt rooms room (suc link) =
    rooms_more n xs d (le_of_suc-le-suc lt) (λ k. rooms (suc k)) room link

-- the link at a place has put out what waited on it
pub puts_more : (before mid after : Put) (time n : ℕ) (links : List Ongoing) (d : Ongoing) → n < length links
    → PutsAll before mid time (take n links) → Puts mid after (n + 1) (to_put time (get_or links n d))
    → HasRoom (Some (get_or links n d)) → PutsAll before after time (take (n + 1) links)
unfolding PutsTo
puts_more before mid after time n links d lt p h room =
    subst (λ m. PutsAll before after time (take m links)) (sym (add-one n)) (
      h.others 0 (λ e. omega (arith, e)) ∙ p.0,
      λ link. (
        rooms_more n links d lt (λ k. (p.1 k).0) room link,
        next_put (λ k. before (suc k)) (λ k. mid (suc k)) (λ k. after (suc k)) time n links d lt (λ k. (p.1 k).1)
            (subst (λ m. Writes (mid m) (after m) (to_put time (get_or links n d))) (add-one n) h.here)
            (λ k ne. h.others (suc k) (λ e. ne (omega (arith, e)))) link,
      ),
    )
