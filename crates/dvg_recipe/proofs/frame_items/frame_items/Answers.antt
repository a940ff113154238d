use Rattle.std.proofs.lemmas.List.{length_push}
use Rattle.dvg_recipe.proofs.Common.{◌<◌, ◌∷◌, [], ◌∙◌, List, LeadsTo, length, reverse, reverse-append, ap, subst, arith, sym, rules}
use Rattle.dvg_words.specs.declared.map.TheConstants.{ADDRESS_END}
use Rattle.dvg_check.proofs.Common.{Board, Frame, Item, frame_word}
use Rattle.dvg_recipe.proofs.Knowing.{frames_push, further}
use Rattle.dvg_recipe.proofs.frame_items.frame_items.Goals as goal

pub loop-format-preserved : goal.loop-format-preserved
loop-format-preserved c =
    let items = c.loop-format.items.items in
    let item : Item = record { at = c.loop-format.at; format = c.in-Holds.format; instr = c.in-Holds.instr } in
    let grown = c.in_ok-push.ensures.items in
    let inv = c.loop-format.invariant in
    let next = sym c.next_address.ensures ∙ c.in-Some.is in
    let past = further item c.in-Some.next next in
    let few : length items < ADDRESS_END = omega (arith, inv.1, c.in-Holds.ensures.near) in (
      subst (λ (l : List Item). LeadsTo Frame (frame_word Board c.args.frame.now) 0 l c.in-Some.next)
          (sym (ap (λ (l : List Item). reverse l) grown ∙ reverse-append items (item ∷ []))) (inv.0, search rules, next),
      omega (arith, ap (λ (l : List Item). length l) grown, length_push items item, inv.1, past),
      frames_push items c.push.new.self.items item grown inv.2 few c.in-Holds.ensures.fields,
    )
