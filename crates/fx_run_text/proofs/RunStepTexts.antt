-- The words of a step are read as it, and no others are.
use Rattle.std.proofs.Common.{◌≡◌, ℕ, List, [], ◌∷◌, ◌++◌, map, Option, Some, None, refl, ap, sym, ◌∙◌, subst, inl, inr}
use Rattle.std.specs.Prelude.{codes}
use Rattle.std.specs.Fmt.{decimal}
use Rattle.std.specs.Str.{bytes_eq}
use Rattle.fx_elements.proofs.Cuts.{chosen}
use Rattle.fx_elements.proofs.Decimals.{number_64}
use Rattle.fx_elements.proofs.Addresses.{by_some, some_is}
use Rattle.fx_tables.specs.declared.holder_name.HolderName.{HolderName}
use Rattle.fx_tables.specs.declared.holder_name.HolderName.TheVariants.{Cache, Aggregation}
use Rattle.fx_run_text.specs.declared.step.Step.{Step}
use Rattle.fx_run_text.specs.declared.step.Step.TheVariants as step
use Rattle.fx_run_text.specs.declared.run_line.StepAction.{StepAction}
use Rattle.fx_run_text.specs.declared.run_line.StepAction.TheVariants.{Cross, Expire, Arrive}
use Rattle.fx_run_text.specs.RunText.{choice_word, holder_words, step_words, IsNumber, AreChoices, IsHolderName, IsStep}
use Rattle.fx_elements.specs.Words.{Words, first_word, number_first}
use Rattle.fx_run_text.specs.RunReading.{cache_first, aggregation_first, holder_first, cross_first, expire_first, arrive_first, action_of, choices_behind, step_with, step_of}
use Rattle.fx_run_text.proofs.RunWordTexts.{word_found, number_word, same_word, choices_text, choices_found}

-- ---- a step is read

cache_text : (device cache : ℕ) (ws : Words) → IsNumber device → IsNumber cache
    → cache_first (decimal device ∷ decimal cache ∷ ws) ≡ Some (Cache device cache, ws)
unfolding cache_first
cache_text device cache ws hd hc = rw (number_64 device hd, number_64 cache hc) refl

aggregation_text : (device process aggregation : ℕ) (ws : Words) → IsNumber device → IsNumber process
    → IsNumber aggregation → aggregation_first (decimal device ∷ decimal process ∷ decimal aggregation ∷ ws)
    ≡ Some (Aggregation device process aggregation, ws)
unfolding aggregation_first
aggregation_text device process aggregation ws hd hp ha =
    rw (number_64 device hd, number_64 process hp, number_64 aggregation ha) refl

holder_text : (h : HolderName) (ws : Words) → IsHolderName h → holder_first (holder_words h ++ ws) ≡ Some (h, ws)
unfolding holder_first
holder_text (Cache device cache) ws h = cache_text device cache ws h.0 h.1
holder_text (Aggregation device process aggregation) ws h = aggregation_text device process aggregation ws h.0 h.1 h.2

cross_text : (packet crossing : ℕ) (ws : Words) → IsNumber packet → IsNumber crossing
    → cross_first (decimal packet ∷ decimal crossing ∷ ws) ≡ Some (Cross packet crossing, ws)
unfolding cross_first
cross_text packet crossing ws hp hc = rw (number_64 packet hp, number_64 crossing hc) refl

expire_text : (holder : HolderName) (position : ℕ) (ws : Words) → IsHolderName holder → IsNumber position
    → expire_first (holder_words holder ++ decimal position ∷ ws) ≡ Some (Expire holder position, ws)
unfolding expire_first
expire_text holder position ws hh hp = rw (holder_text holder (decimal position ∷ ws) hh, number_64 position hp) refl

arrive_text : (link position : ℕ) (ws : Words) → IsNumber link → IsNumber position
    → arrive_first (decimal link ∷ decimal position ∷ ws) ≡ Some (Arrive link position, ws)
unfolding arrive_first
arrive_text link position ws hl hp = rw (number_64 link hl, number_64 position hp) refl

cross_read : (packet crossing : ℕ) (ws : Words) → IsNumber packet → IsNumber crossing
    → action_of (codes "cross") (decimal packet ∷ decimal crossing ∷ ws) ≡ Some (Cross packet crossing, ws)
unfolding action_of
cross_read packet crossing ws hp hc = cross_text packet crossing ws hp hc

expire_read : (holder : HolderName) (position : ℕ) (ws : Words) → IsHolderName holder → IsNumber position
    → action_of (codes "expire") (holder_words holder ++ decimal position ∷ ws) ≡ Some (Expire holder position, ws)
unfolding action_of
expire_read holder position ws hh hp = expire_text holder position ws hh hp

arrive_read : (link position : ℕ) (ws : Words) → IsNumber link → IsNumber position
    → action_of (codes "arrive") (decimal link ∷ decimal position ∷ ws) ≡ Some (Arrive link position, ws)
unfolding action_of
arrive_read link position ws hl hp = arrive_text link position ws hl hp

-- the first word of a step
abbrev pub kind_of : Step → List ℕ
kind_of (step.Cross packet crossing choices) = codes "cross"
kind_of (step.Expire holder position choices) = codes "expire"
kind_of (step.Arrive link position choices) = codes "arrive"

-- the others
abbrev pub behind_kind : Step → Words
behind_kind (step.Cross packet crossing choices) = decimal packet ∷ decimal crossing ∷ map choice_word choices
behind_kind (step.Expire holder position choices) = holder_words holder ++ decimal position ∷ map choice_word choices
behind_kind (step.Arrive link position choices) = decimal link ∷ decimal position ∷ map choice_word choices

pub step_text : (s : Step) → IsStep s → step_of (kind_of s) (behind_kind s) ≡ Some s
unfolding step_of
step_text (step.Cross packet crossing choices) h =
    rw (cross_read packet crossing (map choice_word choices) h.0 h.1, choices_text [] choices h.2) refl
step_text (step.Expire holder position choices) h =
    rw (expire_read holder position (map choice_word choices) h.0 h.1, choices_text [] choices h.2) refl
step_text (step.Arrive link position choices) h =
    rw (arrive_read link position (map choice_word choices) h.0 h.1, choices_text [] choices h.2) refl

-- ---- what is read is a step's

cache_parts : (ws w1 w2 : Words) (d c : ℕ) (r : HolderName × Words) → (ws ≡ decimal d ∷ w1) × IsNumber d
    → (w1 ≡ decimal c ∷ w2) × IsNumber c → (Cache d c, w2) ≡ r → (codes "cache" ∷ ws ≡ holder_words r.0 ++ r.1)
    × IsHolderName r.0
cache_parts ws w1 w2 d c r hd hc is = subst (λ (r : HolderName × Words). (codes "cache" ∷ ws ≡ holder_words r.0 ++ r.1)
    × IsHolderName r.0) is (rw (hd.0, hc.0) refl, (hd.1, hc.1))

cache_found : (ws : Words) (r : HolderName × Words) → cache_first ws ≡ Some r
    → (codes "cache" ∷ ws ≡ holder_words r.0 ++ r.1) × IsHolderName r.0
unfolding cache_first
cache_found ws r is =
    by_some (number_first ws) _ r is (λ d pd ed.
    by_some (number_first d.1) _ r ed (λ c pc ec.
    cache_parts ws d.1 c.1 d.0 c.0 r (number_word ws d pd) (number_word d.1 c pc) (some_is ec)))

aggregation_parts : (ws w1 w2 w3 : Words) (d p a : ℕ) (r : HolderName × Words) → (ws ≡ decimal d ∷ w1) × IsNumber d
    → (w1 ≡ decimal p ∷ w2) × IsNumber p → (w2 ≡ decimal a ∷ w3) × IsNumber a → (Aggregation d p a, w3) ≡ r
    → (codes "aggregation" ∷ ws ≡ holder_words r.0 ++ r.1) × IsHolderName r.0
aggregation_parts ws w1 w2 w3 d p a r hd hp ha is =
    subst (λ (r : HolderName × Words). (codes "aggregation" ∷ ws ≡ holder_words r.0 ++ r.1) × IsHolderName r.0) is
    (rw (hd.0, hp.0, ha.0) refl, (hd.1, hp.1, ha.1))

aggregation_found : (ws : Words) (r : HolderName × Words) → aggregation_first ws ≡ Some r
    → (codes "aggregation" ∷ ws ≡ holder_words r.0 ++ r.1) × IsHolderName r.0
unfolding aggregation_first
aggregation_found ws r is =
    by_some (number_first ws) _ r is (λ d pd ed.
    by_some (number_first d.1) _ r ed (λ p pp ep.
    by_some (number_first p.1) _ r ep (λ a pa ea.
    aggregation_parts ws d.1 p.1 a.1 d.0 p.0 a.0 r (number_word ws d pd) (number_word d.1 p pp) (number_word p.1 a pa)
    (some_is ea))))

-- the word of a kind, in front of the others
in_front : (P : Words → Type 0) (ws rest : Words) (w kind : List ℕ) → ws ≡ w ∷ rest → w ≡ kind → P (kind ∷ rest) → P ws
in_front P ws rest w kind is same p = subst P (sym (is ∙ ap (λ (x : List ℕ). x ∷ rest) same)) p

abbrev HolderFound : (HolderName × Words) → Words → Type 0
HolderFound r ws = (ws ≡ holder_words r.0 ++ r.1) × IsHolderName r.0

holder_found : (ws : Words) (r : HolderName × Words) → holder_first ws ≡ Some r → HolderFound r ws
unfolding holder_first
holder_found ws r is =
    by_some (first_word ws) _ r is (λ k pk ek.
    elim (chosen (bytes_eq k.0 (codes "cache")) _ _ (Some r) ek) [
      | inl h ↦ in_front (HolderFound r) ws k.1 k.0 (codes "cache") (word_found ws k pk)
          (same_word k.0 (codes "cache") h.0) (cache_found k.1 r h.1)
      | inr h ↦ elim (chosen (bytes_eq k.0 (codes "aggregation")) _ None (Some r) h.1) [
        | inl i ↦ in_front (HolderFound r) ws k.1 k.0 (codes "aggregation") (word_found ws k pk)
            (same_word k.0 (codes "aggregation") i.0) (aggregation_found k.1 r i.1)
        | inr i ↦ absurd cc
      ]
    ])

-- the words of an action, before those of its choices
abbrev action_words : StepAction → Words
action_words (Cross packet crossing) = codes "cross" ∷ decimal packet ∷ decimal crossing ∷ []
action_words (Expire holder position) = codes "expire" ∷ (holder_words holder ++ decimal position ∷ [])
action_words (Arrive link position) = codes "arrive" ∷ decimal link ∷ decimal position ∷ []

abbrev IsAction : StepAction → Type 0
IsAction (Cross packet crossing) = IsNumber packet × IsNumber crossing
IsAction (Expire holder position) = IsHolderName holder × IsNumber position
IsAction (Arrive link position) = IsNumber link × IsNumber position

abbrev ActionFound : (StepAction × Words) → Words → Type 0
ActionFound r ws = (ws ≡ action_words r.0 ++ r.1) × IsAction r.0

cross_parts : (ws w1 w2 : Words) (a b : ℕ) (r : StepAction × Words) → (ws ≡ decimal a ∷ w1) × IsNumber a
    → (w1 ≡ decimal b ∷ w2) × IsNumber b → (Cross a b, w2) ≡ r → ActionFound r (codes "cross" ∷ ws)
cross_parts ws w1 w2 a b r ha hb is = subst (λ (r : StepAction × Words). ActionFound r (codes "cross" ∷ ws)) is
    (rw (ha.0, hb.0) refl, (ha.1, hb.1))

cross_found : (ws : Words) (r : StepAction × Words) → cross_first ws ≡ Some r → ActionFound r (codes "cross" ∷ ws)
unfolding cross_first
cross_found ws r is =
    by_some (number_first ws) _ r is (λ a pa ea.
    by_some (number_first a.1) _ r ea (λ b pb eb.
    cross_parts ws a.1 b.1 a.0 b.0 r (number_word ws a pa) (number_word a.1 b pb) (some_is eb)))

arrive_parts : (ws w1 w2 : Words) (a b : ℕ) (r : StepAction × Words) → (ws ≡ decimal a ∷ w1) × IsNumber a
    → (w1 ≡ decimal b ∷ w2) × IsNumber b → (Arrive a b, w2) ≡ r → ActionFound r (codes "arrive" ∷ ws)
arrive_parts ws w1 w2 a b r ha hb is = subst (λ (r : StepAction × Words). ActionFound r (codes "arrive" ∷ ws)) is
    (rw (ha.0, hb.0) refl, (ha.1, hb.1))

arrive_found : (ws : Words) (r : StepAction × Words) → arrive_first ws ≡ Some r → ActionFound r (codes "arrive" ∷ ws)
unfolding arrive_first
arrive_found ws r is =
    by_some (number_first ws) _ r is (λ a pa ea.
    by_some (number_first a.1) _ r ea (λ b pb eb.
    arrive_parts ws a.1 b.1 a.0 b.0 r (number_word ws a pa) (number_word a.1 b pb) (some_is eb)))

holder_front : (h : HolderName) (position : ℕ) (ws : Words) → holder_words h ++ decimal position ∷ ws
    ≡ (holder_words h ++ decimal position ∷ []) ++ ws
holder_front (Cache device cache) position ws = refl
holder_front (Aggregation device process aggregation) position ws = refl

expire_parts : (ws w1 w2 : Words) (h : HolderName) (b : ℕ) (r : StepAction × Words) → (ws ≡ holder_words h ++ w1)
    × IsHolderName h → (w1 ≡ decimal b ∷ w2) × IsNumber b → (Expire h b, w2) ≡ r → ActionFound r (codes "expire" ∷ ws)
expire_parts ws w1 w2 h b r hh hb is =
    let k : ws ≡ (holder_words h ++ decimal b ∷ []) ++ w2 = hh.0 ∙ ap (λ (x : Words). holder_words h ++ x) hb.0
    ∙ holder_front h b w2 in
    subst (λ (r : StepAction × Words). ActionFound r (codes "expire" ∷ ws)) is
    (ap (λ (x : Words). codes "expire" ∷ x) k, (hh.1, hb.1))

expire_found : (ws : Words) (r : StepAction × Words) → expire_first ws ≡ Some r → ActionFound r (codes "expire" ∷ ws)
unfolding expire_first
expire_found ws r is =
    by_some (holder_first ws) _ r is (λ h ph eh.
    by_some (number_first h.1) _ r eh (λ b pb eb.
    expire_parts ws h.1 b.1 h.0 b.0 r (holder_found ws h ph) (number_word h.1 b pb) (some_is eb)))

-- the word of a kind in place of the one that was read
of_kind : (P : Words → Type 0) (ws : Words) (w kind : List ℕ) → w ≡ kind → P (kind ∷ ws) → P (w ∷ ws)
of_kind P ws w kind same p = subst P (ap (λ (x : List ℕ). x ∷ ws) (sym same)) p

action_found : (kind : List ℕ) (ws : Words) (r : StepAction × Words) → action_of kind ws ≡ Some r
    → ActionFound r (kind ∷ ws)
unfolding action_of
action_found kind ws r is =
    elim (chosen (bytes_eq kind (codes "cross")) _ _ (Some r) is) [
      | inl h ↦ of_kind (ActionFound r) ws kind (codes "cross") (same_word kind (codes "cross") h.0)
          (cross_found ws r h.1)
      | inr h ↦ elim (chosen (bytes_eq kind (codes "expire")) _ _ (Some r) h.1) [
        | inl i ↦ of_kind (ActionFound r) ws kind (codes "expire") (same_word kind (codes "expire") i.0)
            (expire_found ws r i.1)
        | inr i ↦ elim (chosen (bytes_eq kind (codes "arrive")) _ None (Some r) i.1) [
          | inl j ↦ of_kind (ActionFound r) ws kind (codes "arrive") (same_word kind (codes "arrive") j.0)
              (arrive_found ws r j.1)
          | inr j ↦ absurd cc
        ]
      ]
    ]

with_choices : (a : StepAction) (choices : List (Option ℕ)) (ws : Words) → ws ≡ action_words a
    ++ map choice_word choices → IsAction a → AreChoices choices → (ws ≡ step_words (step_with a choices))
    × IsStep (step_with a choices)
with_choices (Cross packet crossing) choices ws e h c = (e, (h.0, h.1, c))
with_choices (Expire holder position) choices ws e h c = (
  e ∙ ap (λ (x : Words). codes "expire" ∷ x) (sym (holder_front holder position (map choice_word choices))),
  (h.0, h.1, c),
)
with_choices (Arrive link position) choices ws e h c = (e, (h.0, h.1, c))

step_parts : (ws rest : Words) (a : StepAction) (all cs : List (Option ℕ)) (s : Step) → ws ≡ action_words a ++ rest
    → IsAction a → all ≡ [] ++ cs → rest ≡ map choice_word cs → AreChoices cs → step_with a all ≡ s
    → (ws ≡ step_words s) × IsStep s
step_parts ws rest a all cs s e h same more are is =
    let w : (ws ≡ step_words (step_with a cs)) × IsStep (step_with a cs) =
    with_choices a cs ws (e ∙ ap (λ (x : Words). action_words a ++ x) more) h are in
    let k : step_with a cs ≡ s = ap (λ (x : List (Option ℕ)). step_with a x) (sym same) ∙ is in
    subst (λ (s : Step). (ws ≡ step_words s) × IsStep s) k w

pub step_found : (kind : List ℕ) (ws : Words) (s : Step) → step_of kind ws ≡ Some s → (kind ∷ ws ≡ step_words s)
    × IsStep s
unfolding step_of
step_found kind ws s is =
    by_some (action_of kind ws) _ s is (λ a pa ea.
    by_some (choices_behind [] a.1) _ s ea (λ all pc ec.
    let f = action_found kind ws a pa in
    let c = choices_found [] a.1 all pc in
    step_parts (kind ∷ ws) a.1 a.0 all c.0 s f.0 f.1 c.1 c.2 c.3 (some_is ec)))
