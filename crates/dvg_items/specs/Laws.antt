-- The laws of items, over the definitions alone.
pub use Rattle.dvg_items.specs.Places.{PlaceFromAll}
pub use Rattle.dvg_items.specs.Totals.{ScaleFromAll, WordsFromAll, DepthFromAll}
