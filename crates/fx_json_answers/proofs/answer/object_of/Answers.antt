use Rattle.std.proofs.Common.{ℕ, subst, sym}
use Rattle.std.specs.Prelude.{Ok}
use Rattle.serde_json.specs.Data.{Data, object}
use Rattle.fx_json_answers.specs.Answers.{IsAnswerData}
use Rattle.fx_json_answers.specs.Members.{built}
use Rattle.fx_json_answers.proofs.Added.{answer_members, if_ok}
use Rattle.fx_json_answers.proofs.answer.object_of.Goals as goal

pub returns : goal.returns
returns c =
    let answered = c.args.answered.now in
    if_ok c.into_value.result _ _ (λ v m.
    subst (λ (d : Data). IsAnswerData answered.command.now answered.answer.now answered.status answered.number
    answered.place.now answered.output.now d) (sym m.2)
    (subst (λ (n : ℕ). IsAnswerData answered.command.now answered.answer.now n answered.number answered.place.now
    answered.output.now (object m.0)) c.from.ensures
    (answer_members answered.command.now answered.answer.now answered.output.now c.from.result answered.number
    answered.place.now (Ok c.number_value.result) c.place_value.result c.string_of.result
    (built c.text.new.self) (built c.text-2.new.self) (built c.text-3.new.self) (built c.number.new.self)
    (built c.add.new.self) (built c.add-2.new.self) (built c.add-3.new.self) m.0
    c.text-2.ensures c.text-3.ensures c.number.ensures c.add.ensures c.add-2.ensures c.add-3.ensures
    c.number_value.ensures c.place_value.ensures c.string_of.ensures m.1)))
    c.into_value.ensures
