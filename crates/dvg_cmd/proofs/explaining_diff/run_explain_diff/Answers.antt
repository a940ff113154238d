use Rattle.dvg_cmd.proofs.Common.{◌<◌, length, ◌∙◌, ◌∷◌, ◌++◌, [], inl, inr, refl, ap, subst, Appends, AppendsPrefix}
use Rattle.dvg_text.specs.Devices.{TakesOneWrite}
use Rattle.dvg_cmd.proofs.FramesRuns.{rom_failed}
use Rattle.dvg_cmd.proofs.DumpLengths.{no_dump, some_line, told_of}
use Rattle.dvg_cmd.proofs.explaining_diff.run_explain_diff.Goals as goal

pub returns-in_err-rom-clause-rom_counts : goal.returns-in_err-rom-clause-rom_counts
returns-in_err-rom-clause-rom_counts g c =
    rom_failed c.from_residual.result _ c.from_residual.ensures.1 c.in_err-rom.ensures.fault [] []
    (g.R.CountedRead.failures c.args.other.now ∷ []) refl _ _ c.in_err-rom.ensures.count

pub returns-in_err-other-clause-rom_counts : goal.returns-in_err-other-clause-rom_counts
returns-in_err-other-clause-rom_counts g c =
    rom_failed c.from_residual-in_err-other.result _ c.from_residual-in_err-other.ensures.1 c.in_err-other.ensures.fault
    (g.R.CountedRead.failures c.args.rom.now ∷ []) (g.R.CountedRead.failures c.read_maker_rom.new.rom ∷ []) []
    (ap (λ n. n ∷ []) c.in_ok-rom.ensures.count) _ _ c.in_err-other.ensures.count

pub returns-in_err-good-clause-refused : goal.returns-in_err-good-clause-refused
returns-in_err-good-clause-refused g c =
    λ _. inl (no_dump (g.R.Read.remaining c.args.rom.now) c.in_ok-rom.rom.items c.in_ok-rom.ensures.bytes c.in_err-good.ensures.0)

pub returns-in_err-dump-clause-refused : goal.returns-in_err-dump-clause-refused
returns-in_err-dump-clause-refused g c =
    λ _. inr (no_dump (g.R.Read.remaining c.args.other.now) c.in_ok-other.other.items c.in_ok-other.ensures.bytes c.in_err-dump.ensures.0)

pub returns-in_err-write_lines-clause-prefix : goal.returns-in_err-write_lines-clause-prefix
returns-in_err-write_lines-clause-prefix g c =
    let told = told_of (g.R.Read.remaining c.args.rom.now) (g.R.Read.remaining c.args.other.now) c.in_ok-rom.rom.items
    c.in_ok-other.other.items c.in_ok-rom.ensures.bytes c.in_ok-other.ensures.bytes
    c.in_ok-good.good.now c.in_ok-dump.dump.now c.in_ok-good.ensures c.in_ok-dump.ensures c.differences_of-differences.result
    c.differences_of-differences.ensures.equal c.differences_of-differences.ensures.counts
    c.as_bytes.result.now (λ none. c.as_bytes.ensures.value ∙ c.in_ok-account.ensures.nothing none) in
    let parts = ap (λ line. line ++ c.as_bytes.result.now) (c.as_slice.ensures.value ∙ c.dump_line_of-line.ensures) in
    λ _. record {
      told = told;
      written =
          subst (λ text. AppendsPrefix (g.W.Write.contents c.args.out.now) (g.W.Write.contents c.write_lines.new.out) text) parts
          c.in_err-write_lines.ensures.prefix;
    }

pub returns-clause-text : goal.returns-clause-text
returns-clause-text g c =
    let told = told_of (g.R.Read.remaining c.args.rom.now) (g.R.Read.remaining c.args.other.now) c.in_ok-rom.rom.items
    c.in_ok-other.other.items c.in_ok-rom.ensures.bytes c.in_ok-other.ensures.bytes
    c.in_ok-good.good.now c.in_ok-dump.dump.now c.in_ok-good.ensures c.in_ok-dump.ensures c.differences_of-differences.result
    c.differences_of-differences.ensures.equal c.differences_of-differences.ensures.counts
    c.as_bytes.result.now (λ none. c.as_bytes.ensures.value ∙ c.in_ok-account.ensures.nothing none) in
    let parts = ap (λ line. line ++ c.as_bytes.result.now) (c.as_slice.ensures.value ∙ c.dump_line_of-line.ensures) in
    record {
      told = told;
      differ_is = c.is_some.ensures;
      written = subst (λ text. Appends (g.W.Write.contents c.args.out.now) (g.W.Write.contents c.write_lines.new.out) text) parts
          c.in_ok-write_lines.ensures.ok;
      one_write = subst (λ text. 0 < length text
          → TakesOneWrite text (g.W.CountedWrite.whole_writes c.args.out.now) (g.W.CountedWrite.whole_writes c.write_lines.new.out))
          parts c.in_ok-write_lines.ensures.one_write
          (some_line c.differences_of-differences.result c.as_bytes.result.now);
    }
