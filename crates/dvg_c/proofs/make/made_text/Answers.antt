use Rattle.dvg_c.proofs.Common.{◌∙◌, Some, ap, sym, of_each}
use Rattle.std.proofs.Common.{inr}
use Rattle.dvg_c.proofs.Made.{of_each_twice, written_as, refused_as}
use Rattle.dvg_c.proofs.make.made_text.Goals as goal

pub returns-in-Ok-run_make_frames-clause-ok : goal.returns-in-Ok-run_make_frames-clause-ok
returns-in-Ok-run_make_frames-clause-ok c =
    let readers = c.in_ok-readers.readers.items in
    let frames_are =
    ap (of_each (λ reader. Some reader.device.now)) c.deref_mut.ensures.value
    ∙ of_each_twice (λ reader. reader.device.now) Some readers in (
      of_each (λ reader. reader.device.now) readers,
      c.in_ok-readers.ensures.ok,
      written_as c.args.machine c.args.map (ap (λ device. Some device.device.now) c.new-rom.ensures)
          (c.deref.ensures.value ∙ c.in-Ok.ensures) frames_are
          (ap (λ out. Some out.device.items) c.new-out.ensures ∙ ap Some c.new.ensures.items)
          (ap (λ out. Some out.items) (sym c.into_inner.ensures)) c.in-Ok-run_make_frames.ensures.text,
    )

pub returns-clause-err : goal.returns-clause-err
returns-clause-err c =
    let readers = c.in_ok-readers.readers.items in
    let frames_are =
    ap (of_each (λ reader. Some reader.device.now)) c.deref_mut.ensures.value
    ∙ of_each_twice (λ reader. reader.device.now) Some readers in
    inr (
      c.in-Err.fault,
      c.unmade.ensures,
      of_each (λ reader. reader.device.now) readers,
      c.in_ok-readers.ensures.ok,
      refused_as c.args.machine c.args.map (ap (λ device. Some device.device.now) c.new-rom.ensures)
          (c.deref.ensures.value ∙ c.in-Ok.ensures) frames_are _ c.in-Err.ensures.refused,
    )
