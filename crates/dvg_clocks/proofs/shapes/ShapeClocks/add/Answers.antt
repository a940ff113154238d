use Rattle.std.specs.Prelude.{cond, Some, ◌==◌, ◌&&◌}
use Rattle.dvg_cert.specs.Lookup.{same_key}
use Rattle.std.specs.Map.{lookup}
use Rattle.dvg_clocks.proofs.Common.{◌∙◌, ap, sym, found_at}
use Rattle.dvg_clocks.proofs.Keeping.{found_in, pair_of}
use Rattle.dvg_cert.proofs.Pairs.{pair_eq}
use Rattle.dvg_clocks.proofs.shapes.ShapeClocks.add.Goals as goal

pub returns : goal.returns
returns c addr key =
    found_in addr key c.insert.new.self.entries
    ∙ c.in_ok-insert.ensures.updates.0 (addr, key)
    ∙ ap (λ b. cond b (Some c.args.clocks) (lookup (pair_eq (addr, key)) c.self.inside.found.entries))
    (sym (pair_of c.args.entry.now.addr c.args.entry.now.key (addr, key)))
    ∙ ap (cond ((c.args.entry.now.addr == addr) && same_key c.args.entry.now.key key) (Some c.args.clocks))
    (sym (found_in addr key c.self.inside.found.entries) ∙ ap (λ kept. found_at kept addr key) c.self.view_is)
