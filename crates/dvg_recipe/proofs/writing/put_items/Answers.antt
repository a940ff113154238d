use Rattle.dvg_recipe.proofs.writing.put_items.Goals as goal

pub words_of-words-requires : goal.words_of-words-requires
words_of-words-requires c = c.loop-index.invariant.scale
