use Rattle.std.proofs.Common.{◌∙◌, sym, inl, inr}
use Rattle.std.proofs.lemmas.Result.{IfErr-weaker, IfOk-weaker}
use Rattle.clap.specs.Words.{kind_of}
use Rattle.wb_words.proofs.StartLemmas.{start_faults-failed, start_faults-help, starts-met, starts-none}
use Rattle.wb_words.proofs.start.start_of.Goals as goal

pub returns-in-Ok : goal.returns-in-Ok
returns-in-Ok c = record {
  value = IfOk-weaker c.started.result _ _ (λ start asks. starts-met _ _ _ _ _ start c.in_ok-start_app.ensures.value c.in_ok-read.ensures.value
      (sym c.begins_with_help.ensures.value ∙ c.if-begins_with_help.false) c.in-Ok.ensures.kinds c.in-Ok.ensures.matches asks)
      c.started.ensures.value;
  refused = IfErr-weaker c.started.result _ _ (λ error none other. starts-none _ _ _ _ _ c.in_ok-start_app.ensures.value c.in_ok-read.ensures.value
      (sym c.begins_with_help.ensures.value ∙ c.if-begins_with_help.false) c.in-Ok.ensures.kinds c.in-Ok.ensures.matches
      (none other))
      c.started.ensures.refused;
}

pub returns-in-DisplayHelp : goal.returns-in-DisplayHelp
returns-in-DisplayHelp c = record {
  value = inr (start_faults-help _ _ _ c.in-Err.error c.in_ok-start_app.ensures.value c.in_ok-read.ensures.value c.in-Err.ensures.kinds (sym c.kind.ensures ∙ c.in-DisplayHelp.is));
  refused = tt;
}

pub returns : goal.returns
returns c = record {
  value = tt;
  refused = λ other. (
    sym c.begins_with_help.ensures.value ∙ c.if-begins_with_help.false,
    inl (
      kind_of c.in-Err.error,
      start_faults-failed _ _ _ c.in-Err.error c.in_ok-start_app.ensures.value c.in_ok-read.ensures.value c.in-Err.ensures.kinds other,
      λ is_help. c.in_default.not-DisplayHelp (c.kind.ensures ∙ is_help),
    ),
  );
}
