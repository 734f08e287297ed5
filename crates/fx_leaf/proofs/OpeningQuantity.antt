-- The quantity at the opening is the plain sums.
use Rattle.std.proofs.Common.{◌≡◌, ◌≢◌, ℕ, suc, ◌+◌, ◌%◌, ◌^◌, Bool, not, filter, true, false, cond, if◌then◌else◌, List, [], ◌∷◌, Option, Some, None, option_map, refl, sym, ap, ap₂, ◌∙◌, subst, arith, slice_get, mod-eq_of_lt, IfSome}
use Rattle.std.proofs.Math.Nat.{mod-mod, add-mod-mod}
use Rattle.fx_base.specs.declared.counts.Counts.{Counts}
use Rattle.fx_layout.specs.Keys.{Key, Layout, key_of, same_key}
use Rattle.fx_layout.proofs.Projections.{project_key}
use Rattle.fx_tables.specs.declared.record.Record.{Record}
use Rattle.fx_tables.specs.declared.traffic.Crossing.{Crossing}
use Rattle.fx_tables.specs.declared.observation.Occurrence.{Occurrence}
use Rattle.fx_tables.specs.declared.packet.Packet.{Packet}
use Rattle.fx_base.specs.Entries.{entry_numbered}
use Rattle.fx_tables.specs.Network.{Net, layout_of}
use Rattle.fx_tables.specs.Classes.{path, exempts, to_count, Class}
use Rattle.fx_tables.specs.Occurrences.{occurrences}
use Rattle.fx_machine.specs.States.{crossings_from, coming_from, nothing_at, opening, all_empty, Coming}
use Rattle.fx_machine.specs.Acts.{Act}
use Rattle.fx_machine.specs.Steps.{crossing_acts, one_packet, meet}
use Rattle.fx_machine.specs.Sums.{plain_sum, one_more, IsBelow}
use Rattle.fx_machine.specs.Claim.{counts_modulo}
use Rattle.fx_tables.specs.Ranks.{IsNetwork}
use Rattle.fx_machine.proofs.Lists.{nothing_empty}
use Rattle.fx_leaf.specs.declared.verdict.Fate.TheVariants.{Once}
use Rattle.fx_leaf.specs.Fates.{FateAt, act_fate, fate, acts_along, packet_fate, wanted_fate}
use Rattle.fx_leaf.specs.Quantity.{Weight, Wrong, Nothing, Counted, plus, weigh_all, weigh_each, part_of, by_fate, key_of_act, act_weight, held_weight, carried_weight, coming_weight, packet_weight, total_weight, wrapped_weight, quantity}
use Rattle.fx_leaf.proofs.Weights.{weigh_append}
use Rattle.fx_leaf.proofs.FateLaws.{Every, every_append, all_weighed, IsGood}
use Rattle.fx_leaf.proofs.Steps.{IsFate, every_map, held_once}
use Rattle.fx_leaf.proofs.Ranks.{is_fate}

pub empty_weighs : (f : ℕ → List Record → Weight) (rss : List (List Record)) → ((n : ℕ) → f n [] ≡ Nothing)
    → all_empty rss ≡ true → weigh_each f rss ≡ Nothing
empty_weighs f [] h e = refl
empty_weighs f ([] ∷ rss) h e = ap (λ w. plus w (weigh_each (λ n. f (suc n)) rss)) (h 0)
    ∙ empty_weighs (λ n. f (suc n)) rss (λ n. h (suc n)) e
empty_weighs f ((r ∷ rs) ∷ rss) h e = absurd (cc)

-- the rest stands in the list from this place on
abbrev StandsAt : {A : Type 0} → List A → ℕ → List A → Type 0
StandsAt xs n [] = Unit {0}
StandsAt xs n (y ∷ ys) = (slice_get xs n ≡ Some y) × StandsAt xs (suc n) ys

stands_behind : {A : Type 0} (x : A) (xs : List A) (n : ℕ) (ys : List A) → StandsAt xs n ys
    → StandsAt (x ∷ xs) (suc n) ys
stands_behind x xs n [] h = tt
stands_behind x xs n (y ∷ ys) h = (h.0, stands_behind x xs (suc n) ys h.1)

stands : {A : Type 0} (xs : List A) → StandsAt xs 0 xs
stands [] = tt
stands (x ∷ xs) = (refl, stands_behind x xs 0 xs (stands xs))

wanted_good : (exempt : Bool) → IsGood (wanted_fate exempt)
wanted_good true = tt
wanted_good false = tt

-- what is to be counted weighs as much as all, where each exempt one weighs nothing
wanted_weigh : {A : Type 0} (exempt : A → Bool) (f : A → Weight) (xs : List A)
    → weigh_all (λ x. by_fate (wanted_fate (exempt x)) (f x)) xs ≡ weigh_all f (filter (λ x. not (exempt x)) xs)
wanted_weigh exempt f [] = refl
wanted_weigh exempt f (x ∷ xs) =
    let rest = filter (λ y. not (exempt y)) xs in
    let same = wanted_weigh exempt f xs in
    elim (exempt x) as (λ b. plus (by_fate (wanted_fate b) (f x))
    (weigh_all (λ y. by_fate (wanted_fate (exempt y)) (f y)) xs) ≡ weigh_all f (cond (not b) (x ∷ rest) rest)) [
      | true ↦ same
      | false ↦ ap (plus (f x)) same
    ]

module _ (net : Net) (is_net : IsNetwork net) (classes : List Class) (packets : List Packet) (total : Key) where
  abbrev at : FateAt
  at = fate net

  known : IsFate at net
  known = is_fate net is_net.ranked

  -- a packet's part of the plain sum
  abbrev part : Packet → Weight
  part p = if same_key (key_of net.report_layout p.fields) total then Counted (one_packet p) else Nothing

  abbrev SamePart : Packet → Act → Type 0
  SamePart p a = act_fate at net a ≡ Once → part_of net total (key_of_act a) (one_packet p) ≡ part p

  met_part : (p : Packet) (o : Occurrence) → SamePart p (meet net p.fields o)
  met_part p o once =
      let layout = layout_of (slice_get net.holders o.holder) in
      let on = held_once at net known.refined (key_of layout p.fields) (slice_get net.holders o.holder) once in
      ap (λ k. if same_key k total then Counted (one_packet p) else Nothing)
      (project_key layout net.report_layout p.fields (is_net.fits o.holder) on)

  along_part : (p : Packet) (cs : List Crossing) → Every (SamePart p) (acts_along net p.fields cs)
  along_part p [] = tt
  along_part p (c ∷ cs) =
      every_append (SamePart p) (crossing_acts net p.fields (Some c)) (acts_along net p.fields cs)
      (every_map (SamePart p) (meet net p.fields) (occurrences net c p.fields) (met_part p)) (along_part p cs)

  -- a packet with the fate that is wanted weighs its part, or nothing where it is exempt
  path_weighs : (p : Packet) (exempt : Bool) (cs : List Crossing) → packet_fate net p.fields cs ≡ wanted_fate exempt
      → weigh_all (act_weight at net total (one_packet p)) (acts_along net p.fields cs)
      ≡ by_fate (wanted_fate exempt) (part p)
  path_weighs p exempt cs is =
      all_weighed (act_fate at net) (λ a. part_of net total (key_of_act a) (one_packet p)) (part p)
      (acts_along net p.fields cs) (along_part p cs) (subst IsGood (sym is) (wanted_good exempt))
      ∙ ap (λ f. by_fate f (part p)) is

  abbrev exempted : Packet → Bool
  exempted p = exempts (entry_numbered classes p.class)

  abbrev weight : Coming → Weight
  weight = coming_weight at net classes packets total

  crossings_weigh : (p : Packet) (i n : ℕ) (cs : List Crossing) → entry_numbered packets i ≡ Some p
      → StandsAt (path classes p) n cs → weigh_all weight (crossings_from i (suc n) cs)
      ≡ weigh_all (act_weight at net total (one_packet p)) (acts_along net p.fields cs)
  crossings_weigh p i n [] is h = refl
  crossings_weigh p i n (c ∷ cs) is h =
      let here : weight (record { packet = i; crossing = suc n })
      ≡ weigh_all (act_weight at net total (one_packet p)) (crossing_acts net p.fields (Some c)) =
      ap (λ q. packet_weight at net classes total q (suc n)) is
      ∙ ap (λ o. weigh_all (act_weight at net total (one_packet p)) (crossing_acts net p.fields o)) h.0 in
      ap₂ plus here (crossings_weigh p i (suc n) cs is h.1)
      ∙ sym (weigh_append (act_weight at net total (one_packet p)) (crossing_acts net p.fields (Some c))
      (acts_along net p.fields cs))

  packets_weigh : (n : ℕ) (ps : List Packet) → StandsAt packets n ps
      → Every (λ p. packet_fate net p.fields (path classes p) ≡ wanted_fate (exempted p)) ps
      → weigh_all weight (coming_from classes (suc n) ps)
      ≡ weigh_all (λ p. by_fate (wanted_fate (exempted p)) (part p)) ps
  packets_weigh n [] h is = refl
  packets_weigh n (p ∷ ps) h is =
      weigh_append weight (crossings_from (suc n) 1 (path classes p)) (coming_from classes (suc (suc n)) ps)
      ∙ ap₂ plus (crossings_weigh p (suc n) 0 (path classes p) h.0 (stands (path classes p))
      ∙ path_weighs p (exempted p) (path classes p) is.0) (packets_weigh (suc n) ps h.1 is.1)

  pub opens : Every (λ p. packet_fate net p.fields (path classes p) ≡ wanted_fate (exempted p)) packets
      → quantity net classes packets total (opening net classes packets) ≡ weigh_all part (to_count classes packets)
  opens is =
      let h = empty_weighs (held_weight at net total) (nothing_at net.holders) (λ n. refl) (nothing_empty net.holders)
      in
      let c = empty_weighs (carried_weight at net total) (nothing_at net.links) (λ n. refl) (nothing_empty net.links) in
      let k = packets_weigh 0 packets (stands packets) is ∙ wanted_weigh exempted part packets in
      ap₂ plus h (ap₂ plus c k)

-- what packets add to the total of one report key
abbrev pub plain_weight : Layout → Key → List Packet → Weight
plain_weight layout total = weigh_all (λ p. if same_key (key_of layout p.fields) total then Counted (one_packet p)
    else Nothing)

-- the plain sum of the rest fits too
rest_below : (octets : ℕ) (o : Option Counts) → IsBelow (one_more octets o) → IfSome o IsBelow
rest_below octets None h = tt
rest_below octets (Some c) h = (omega (arith, h.0), omega (arith, h.1))

add_one : (octets : ℕ) (o : Option Counts) → IsBelow (one_more octets o)
    → plus (Counted (record { packets = 1; octets = octets })) (total_weight o) ≡ Counted (one_more octets o)
add_one octets None h = refl
add_one octets (Some c) h =
    ap Counted (ap₂ (λ (p q : ℕ). record { packets = p; octets = q }) (mod-eq_of_lt h.0) (mod-eq_of_lt h.1))

pub plain_weighs : (layout : Layout) (total : Key) (packets : List Packet)
    → IfSome (plain_sum layout total packets) IsBelow → plain_weight layout total packets
    ≡ total_weight (plain_sum layout total packets)
plain_weighs layout total [] fits = refl
plain_weighs layout total (p ∷ ps) fits =
    let rest = plain_sum layout total ps in
    elim (same_key (key_of layout p.fields) total)
    as (λ b. IfSome (cond b (Some (one_more p.octets rest)) rest) IsBelow
    → plus (cond b (Counted (one_packet p)) Nothing) (plain_weight layout total ps)
    ≡ total_weight (cond b (Some (one_more p.octets rest)) rest)) [
      | true ↦ λ f. ap (plus (Counted (one_packet p))) (plain_weighs layout total ps (rest_below p.octets rest f))
          ∙ add_one p.octets rest f
      | false ↦ λ f. plain_weighs layout total ps f
    ] fits

sum_modulo : (m n a b : ℕ) → a % m ≡ b % m → (n + a) % m % m ≡ (n + b) % m
sum_modulo m n a b h =
    mod-mod (n + a) m ∙ sym (add-mod-mod n a m) ∙ ap (λ k. (n + k) % m) h ∙ add-mod-mod n b m

add_modulo : (octets : ℕ) (w : Weight) (o : Option Counts) → wrapped_weight w
    ≡ total_weight (option_map counts_modulo o)
    → wrapped_weight (plus (Counted (record { packets = 1; octets = octets })) w)
    ≡ Counted (counts_modulo (one_more octets o))
add_modulo octets Wrong None h = absurd (cc)
add_modulo octets Wrong (Some c) h = absurd (cc)
add_modulo octets Nothing None h = refl
add_modulo octets Nothing (Some c) h = absurd (cc)
add_modulo octets (Counted b) None h = absurd (cc)
add_modulo octets (Counted b) (Some c) h =
    let same : counts_modulo b ≡ counts_modulo c = cc in
    ap Counted (ap₂ (λ (p q : ℕ). record { packets = p; octets = q })
    (sum_modulo (2 ^ 64) 1 b.packets c.packets (ap (λ x. x.packets) same))
    (sum_modulo (2 ^ 64) octets b.octets c.octets (ap (λ x. x.octets) same)))

-- modulo 2 to the 64 the packets weigh their plain sum, however large it is
pub plain_modulo : (layout : Layout) (total : Key) (packets : List Packet)
    → wrapped_weight (plain_weight layout total packets)
    ≡ total_weight (option_map counts_modulo (plain_sum layout total packets))
plain_modulo layout total [] = refl
plain_modulo layout total (p ∷ ps) =
    let rest = plain_sum layout total ps in
    elim (same_key (key_of layout p.fields) total)
    as (λ b. wrapped_weight (plus (cond b (Counted (one_packet p)) Nothing) (plain_weight layout total ps))
    ≡ total_weight (option_map counts_modulo (cond b (Some (one_more p.octets rest)) rest))) [
      | true ↦ add_modulo p.octets (plain_weight layout total ps) rest (plain_modulo layout total ps)
      | false ↦ plain_modulo layout total ps
    ]

pub total_modulo : (o : Option Counts) → total_weight (option_map counts_modulo o) ≡ wrapped_weight (total_weight o)
total_modulo None = refl
total_modulo (Some c) = refl

pub total_not_wrong : (o : Option Counts) → total_weight o ≢ Wrong
total_not_wrong None e = absurd (cc)
total_not_wrong (Some c) e = absurd (cc)

pub plain_not_wrong : (layout : Layout) (total : Key) (packets : List Packet)
    → plain_weight layout total packets ≢ Wrong
plain_not_wrong layout total packets e =
    total_not_wrong (option_map counts_modulo (plain_sum layout total packets))
    (sym (plain_modulo layout total packets) ∙ ap wrapped_weight e)
