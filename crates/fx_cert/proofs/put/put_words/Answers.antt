use Rattle.std.proofs.Common.{ap, ◌∙◌}
use Rattle.fx_cert.specs.declared.item.Item.TheVariants.{Header}
use Rattle.fx_cert.proofs.put.put_words.Goals as goal

pub returns-in-Header-One : goal.returns-in-Header-One
returns-in-Header-One g c =
    let version = rw c.in-Header-One.is at c.in-Header-One.field-0-is in
    record {
      ok = rw (c.in-Header-One.is ∙ ap Header version) c.put_text.ensures.ok;
      going =
          c.put_text.ensures.going;
      err = c.put_text.ensures.err;
    }

pub returns-in-Header-Two : goal.returns-in-Header-Two
returns-in-Header-Two g c =
    let version = rw c.in-Header-Two.is at c.in-Header-Two.field-0-is in
    record {
      ok = rw (c.in-Header-Two.is ∙ ap Header version) c.put_text-in-Header-Two.ensures.ok;
      going =
          c.put_text-in-Header-Two.ensures.going;
      err = c.put_text-in-Header-Two.ensures.err;
    }

pub returns-in-Class : goal.returns-in-Class
returns-in-Class g c = record {
  ok = rw c.in-Class.is c.put_class.ensures.ok;
  going = c.put_class.ensures.going;
  err =
      c.put_class.ensures.err;
}

pub returns-in-Split : goal.returns-in-Split
returns-in-Split g c = record {
  ok = rw c.in-Split.is c.put_split.ensures.ok;
  going = c.put_split.ensures.going;
  err =
      c.put_split.ensures.err;
}

pub returns-in-Leaf : goal.returns-in-Leaf
returns-in-Leaf g c = record {
  ok = rw c.in-Leaf.is c.put_leaf.ensures.ok;
  going = c.put_leaf.ensures.going;
  err =
      c.put_leaf.ensures.err;
}

pub returns-in-Never : goal.returns-in-Never
returns-in-Never g c = record {
  ok = rw c.in-Never.is c.put_text-in-Never.ensures.ok;
  going =
      c.put_text-in-Never.ensures.going;
  err = c.put_text-in-Never.ensures.err;
}

pub returns-in-End : goal.returns-in-End
returns-in-End g c = record {
  ok = rw c.in-End.is c.put_text-in-End.ensures.ok;
  going =
      c.put_text-in-End.ensures.going;
  err = c.put_text-in-End.ensures.err;
}
