-- How many remarks on accepted frames there are of each kind, and the line that tells it. All of it is this project's own.
use Rattle.std.specs.Prelude.{ℕ, List, ◌++◌, codes, decimal, true}
use Rattle.dvg_text.specs.Devices.{count_after}
pub use Rattle.dvg_spelling.specs.declared.remark.RemarkKind.{RemarkKind}
pub use Rattle.dvg_spelling.specs.declared.remark.RemarkKind.TheVariants as kind
pub use Rattle.dvg_spelling.specs.declared.remark.RemarkTally.{RemarkTally}

-- no remark
abbrev pub no_remarks : RemarkTally
no_remarks = record { runs_on = 0; beside_label = 0; scale_over_9 = 0; nothing_lit = 0; no_jump = 0; idle_labs = 0 }

-- one remark more of this kind; a count stops at the greatest u32
abbrev pub with_kind : RemarkKind → RemarkTally → RemarkTally
with_kind kind.RunsOn t = record t { runs_on = count_after true t.runs_on }
with_kind kind.BesideLabel t = record t { beside_label = count_after true t.beside_label }
with_kind kind.ScaleOver9 t = record t { scale_over_9 = count_after true t.scale_over_9 }
with_kind kind.NothingLit t = record t { nothing_lit = count_after true t.nothing_lit }
with_kind kind.NoJump t = record t { no_jump = count_after true t.no_jump }
with_kind kind.IdleLabs t = record t { idle_labs = count_after true t.idle_labs }

-- the whole line
abbrev pub remarks_text : RemarkTally → List ℕ
remarks_text t =
    codes "remark-runs-on=" ++ decimal t.runs_on ++ codes " remark-beside-label=" ++ decimal t.beside_label
    ++ codes " remark-scale-over-9=" ++ decimal t.scale_over_9 ++ codes " remark-nothing-lit=" ++ decimal t.nothing_lit
    ++ codes " remark-no-jump=" ++ decimal t.no_jump ++ codes " remark-idle-labs=" ++ decimal t.idle_labs ++ codes "\n"
