-- The words of a line, each but the first behind a space.
use Rattle.std.proofs.Common.{◌≡◌, ℕ, zero, suc, ◌+◌, ◌^◌, ◌<◌, List, [], ◌∷◌, ◌++◌, map, take, slice_get, Option, Some, refl, ap, sym, ◌∙◌, arith, append_assoc}
use Rattle.std.specs.Prelude.{codes}
use Rattle.std.specs.Fmt.{decimal}
use Rattle.std.specs.List.{join_with_byte}
use Rattle.std.proofs.lemmas.List.{append-nil}
use Rattle.fx_elements.specs.declared.axis.Axis.{Axis}
use Rattle.fx_elements.specs.declared.axis.Axis.TheVariants as axis
use Rattle.fx_elements.specs.Axes.{Fields, axis_index, axis_width, field}
use Rattle.fx_elements.proofs.EveryAxis.{index_below, top_below}
use Rattle.fx_elements.specs.Spelling.{quad}
use Rattle.fx_elements.specs.Groups.{groups}
use Rattle.fx_elements.specs.Values.{leading_text, value_text}
use Rattle.fx_boxes.specs.Boxes.{IsFields}
use Rattle.fx_tables.specs.declared.packet.Packet.{Packet}
use Rattle.fx_tables.specs.declared.holder_name.HolderName.{HolderName}
use Rattle.fx_tables.specs.declared.holder_name.HolderName.TheVariants as holders
use Rattle.fx_run_text.specs.declared.step.Step.TheVariants as step
use Rattle.fx_run_text.specs.declared.text_version.TextVersion.TheVariants.{Two}
use Rattle.fx_run_text.specs.RunText.{choice_word, field_words, holder_words, packet_words, step_words}
use Rattle.fx_run_text.specs.RunLineText.{spaced_words}
use Rattle.fx_elements.specs.Words.{Words}

-- ---- values

pub whole_value : (a : Axis) (v : ℕ) → leading_text a (axis_width a) v ≡ value_text a v
whole_value axis.Source v = append-nil _ ∙ ap quad (omega arith)
whole_value axis.Destination v = append-nil _ ∙ ap quad (omega arith)
whole_value axis.Protocol v = append-nil _ ∙ ap decimal (omega arith)
whole_value axis.SourcePort v = append-nil _ ∙ ap decimal (omega arith)
whole_value axis.DestinationPort v = append-nil _ ∙ ap decimal (omega arith)
whole_value axis.ClassOfService v = append-nil _ ∙ ap decimal (omega arith)
whole_value axis.Version v = append-nil _ ∙ ap decimal (omega arith)
whole_value axis.Source6 v = append-nil _ ∙ ap groups (omega arith)
whole_value axis.Destination6 v = append-nil _ ∙ ap groups (omega arith)

pub field_fits : (fields : Fields) (a : Axis) → IsFields fields → field fields a < 2 ^ axis_width a
field_fits fields a on = let le = on (axis_index a) (index_below a) in omega (arith, le, top_below a)

-- ---- words

pub join_spaced : (w : List ℕ) (ws : Words) → join_with_byte 32 (w ∷ ws) ≡ w ++ spaced_words ws
join_spaced w [] = sym (append-nil w)
join_spaced w (v ∷ vs) = ap (λ (x : List ℕ). w ++ 32 ∷ x) (join_spaced v vs)

pub spaced_both : (a b : Words) → spaced_words (a ++ b) ≡ spaced_words a ++ spaced_words b
spaced_both [] b = refl
spaced_both (w ∷ ws) b = ap (λ (x : List ℕ). (32 ∷ w) ++ x) (spaced_both ws b)
    ∙ sym (append_assoc (32 ∷ w) (spaced_words ws) (spaced_words b))

-- one word more
spaced_suc : {A : Type 0} (word : A → List ℕ) (xs : List A) (k : ℕ) (x : A) → slice_get xs k ≡ Some x
    → spaced_words (map word (take k xs)) ++ spaced_words (word x ∷ []) ≡ spaced_words (map word (take (suc k) xs))
spaced_suc word [] k x is = absurd (cc)
spaced_suc word (y ∷ ys) zero x is = let same : y ≡ x = cc in ap (λ z. spaced_words (word z ∷ [])) (sym same)
spaced_suc word (y ∷ ys) (suc k) x is =
    append_assoc (32 ∷ word y) (spaced_words (map word (take k ys))) (spaced_words (word x ∷ []))
    ∙ ap (λ (z : List ℕ). (32 ∷ word y) ++ z) (spaced_suc word ys k x is)

pub spaced_next : {A : Type 0} (word : A → List ℕ) (xs : List A) (k : ℕ) (x : A) → slice_get xs k ≡ Some x
    → spaced_words (map word (take k xs)) ++ spaced_words (word x ∷ []) ≡ spaced_words (map word (take (k + 1) xs))
spaced_next word xs k x is =
    let next : suc k ≡ k + 1 = omega arith in
    spaced_suc word xs k x is ∙ ap (λ n. spaced_words (map word (take n xs))) next

pub field_put : (a : Axis) (v bits n : ℕ) → bits ≡ axis_width a → n ≡ v → spaced_words (value_text a v ∷ []) ≡ codes " "
    ++ leading_text a bits n
field_put a v bits n b same =
    ap (λ (x : List ℕ). 32 ∷ x) (append-nil (value_text a v) ∙ sym (whole_value a v)
    ∙ ap (λ k. leading_text a k v) (sym b) ∙ ap (leading_text a bits) (sym same))

pub cache_put : (device cache : ℕ) → spaced_words (holder_words (holders.Cache device cache)) ≡ codes " cache"
    ++ (spaced_words (decimal device ∷ []) ++ spaced_words (decimal cache ∷ []))
cache_put device cache = ap (λ (x : List ℕ). codes " cache" ++ x)
    (spaced_both (decimal device ∷ []) (decimal cache ∷ []))

pub aggregation_put : (device process aggregation : ℕ)
    → spaced_words (holder_words (holders.Aggregation device process aggregation)) ≡ codes " aggregation"
    ++ (spaced_words (decimal device ∷ []) ++ (spaced_words (decimal process ∷ [])
    ++ spaced_words (decimal aggregation ∷ [])))
aggregation_put device process aggregation =
    ap (λ (x : List ℕ). codes " aggregation" ++ x) (
    spaced_both (decimal device ∷ []) (decimal process ∷ decimal aggregation ∷ [])
    ∙ ap (λ (x : List ℕ). spaced_words (decimal device ∷ []) ++ x)
    (spaced_both (decimal process ∷ []) (decimal aggregation ∷ [])))

pub packet_put : (p : Packet) → join_with_byte 32 (packet_words Two p) ≡ codes "packet"
    ++ (spaced_words (decimal p.class ∷ [])
    ++ (spaced_words (decimal p.path ∷ []) ++ (spaced_words (field_words Two p.fields)
    ++ spaced_words (decimal p.octets ∷ []))))
packet_put p =
    join_spaced (codes "packet") (decimal p.class ∷ decimal p.path
    ∷ (field_words Two p.fields ++ decimal p.octets ∷ []))
    ∙ ap (λ (x : List ℕ). codes "packet" ++ x) (
    spaced_both (decimal p.class ∷ []) (decimal p.path ∷ (field_words Two p.fields ++ decimal p.octets ∷ []))
    ∙ ap (λ (x : List ℕ). spaced_words (decimal p.class ∷ []) ++ x) (
    spaced_both (decimal p.path ∷ []) (field_words Two p.fields ++ decimal p.octets ∷ [])
    ∙ ap (λ (x : List ℕ). spaced_words (decimal p.path ∷ []) ++ x)
    (spaced_both (field_words Two p.fields) (decimal p.octets ∷ []))))

pub cross_put : (packet crossing : ℕ) (choices : List (Option ℕ))
    → join_with_byte 32 (step_words (step.Cross packet crossing choices)) ≡ codes "cross"
    ++ (spaced_words (decimal packet ∷ []) ++ (spaced_words (decimal crossing ∷ [])
    ++ spaced_words (map choice_word choices)))
cross_put packet crossing choices =
    join_spaced (codes "cross") (decimal packet ∷ decimal crossing ∷ map choice_word choices)
    ∙ ap (λ (x : List ℕ). codes "cross" ++ x) (
    spaced_both (decimal packet ∷ []) (decimal crossing ∷ map choice_word choices)
    ∙ ap (λ (x : List ℕ). spaced_words (decimal packet ∷ []) ++ x)
    (spaced_both (decimal crossing ∷ []) (map choice_word choices)))

pub arrive_put : (link position : ℕ) (choices : List (Option ℕ))
    → join_with_byte 32 (step_words (step.Arrive link position choices)) ≡ codes "arrive"
    ++ (spaced_words (decimal link ∷ []) ++ (spaced_words (decimal position ∷ [])
    ++ spaced_words (map choice_word choices)))
arrive_put link position choices =
    join_spaced (codes "arrive") (decimal link ∷ decimal position ∷ map choice_word choices)
    ∙ ap (λ (x : List ℕ). codes "arrive" ++ x) (
    spaced_both (decimal link ∷ []) (decimal position ∷ map choice_word choices)
    ∙ ap (λ (x : List ℕ). spaced_words (decimal link ∷ []) ++ x)
    (spaced_both (decimal position ∷ []) (map choice_word choices)))

pub expire_put : (holder : HolderName) (position : ℕ) (choices : List (Option ℕ))
    → join_with_byte 32 (step_words (step.Expire holder position choices)) ≡ codes "expire"
    ++ (spaced_words (holder_words holder) ++ (spaced_words (decimal position ∷ [])
    ++ spaced_words (map choice_word choices)))
expire_put holder position choices =
    join_spaced (codes "expire") (holder_words holder ++ decimal position ∷ map choice_word choices)
    ∙ ap (λ (x : List ℕ). codes "expire" ++ x) (
    spaced_both (holder_words holder) (decimal position ∷ map choice_word choices)
    ∙ ap (λ (x : List ℕ). spaced_words (holder_words holder) ++ x)
    (spaced_both (decimal position ∷ []) (map choice_word choices)))
