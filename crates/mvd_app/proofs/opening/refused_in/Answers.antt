use Rattle.std.proofs.Common.{◌∙◌, inl, inr, refl, sym, true≢false}
use Rattle.mvd_records.proofs.Checked.{reads_nothing}
use Rattle.mvd_app.specs.Refused.{TellsRefusal}
use Rattle.mvd_app.proofs.opening.refused_in.Goals as goal

pub returns-then-is_foreign : goal.returns-then-is_foreign
returns-then-is_foreign g c = record {
  reads = reads_nothing _;
  either = inl (c.in_foreign.ensures.fault, c.in_foreign.ensures.hint);
  foreign = λ _. record { stays = refl; fault = c.in_foreign.ensures.fault; hint = c.in_foreign.ensures.hint };
  ours = λ is_open no. absurd (no ((c.is_foreign.ensures is_open).0 c.if-is_foreign.true));
}

pub returns : goal.returns
returns g c =
    let told : TellsRefusal c.args.file c.args.refusal c.owner_in-owner.result c.in_records.result = record {
      fault = c.in_records.ensures.fault;
      damaged = c.in_records.ensures.damaged;
      full = c.in_records.ensures.full;
      store = c.in_records.ensures.store;
      other = c.in_records.ensures.owner;
    } in
    record {
      reads = c.owner_in-owner.ensures.reads;
      either = inr (c.owner_in-owner.result, told);
      foreign = λ holds. absurd (true≢false
          (sym ((c.is_foreign.ensures holds.is_open).1 holds) ∙ c.if-is_foreign.false));
      ours = λ _ _. record { owner = c.owner_in-owner.result; named = c.owner_in-owner.ensures.named; unnamed = c.owner_in-owner.ensures.unnamed; told = told };
    }
