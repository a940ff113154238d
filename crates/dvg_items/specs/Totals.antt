-- The known scale, words and depth, from all items at once: the latest scale that was set, a sum and a maximum.
-- No rule uses this; laws say that these are the known ones.
use Rattle.std.specs.Prelude.{◌≡◌, ℕ, ◌+◌, max, List, Option, unwrap_or, slice_get, filter_map, sum, fold}
use Rattle.dvg_words.specs.Decoding.{word_count}
use Rattle.dvg_cert.specs.declared.entry.Key.{Key}
use Rattle.dvg_items.specs.Items.{Item}
use Rattle.dvg_items.specs.Known.{Context, callee, scale_set, callee_words, depth_under, scale_before, words_before, depth_before}
use Rattle.dvg_items.specs.Places.{map_with_earlier}

-- the scale that an item after these sets: a LABS its number, a call or tail jump the scale that its entry leaves (profile)
abbrev pub scale_of : Context → List Item → Item → Option Key
scale_of c earlier i = scale_set i.instr (callee c earlier i.instr)

-- the words of an item after these, and the words of the entry that it calls (profile)
abbrev pub words_of : Context → List Item → Item → ℕ
words_of c earlier i = word_count i.format + callee_words (callee c earlier i.instr)

-- the most return places stored at once under an item after these (profile)
abbrev pub depth_of : Context → List Item → Item → ℕ
depth_of c earlier i = depth_under i.instr (callee c earlier i.instr)

-- the scales that items set, the latest first (profile)
abbrev pub scales_set : Context → List Item → List Key
scales_set c earlier = filter_map (λ scale. scale) (map_with_earlier (scale_of c) earlier)

-- the known scale is the latest scale that an item set, or else the scale at the start (profile)
abbrev pub ScaleFromAll : Type 0
ScaleFromAll =
    (c : Context) (earlier : List Item)
    → scale_before c earlier ≡ unwrap_or (slice_get (scales_set c earlier) 0) c.scale

-- the words so far are the sum of the words of all items (profile)
abbrev pub WordsFromAll : Type 0
WordsFromAll =
    (c : Context) (earlier : List Item)
    → words_before c earlier ≡ sum (map_with_earlier (words_of c) earlier)

-- the depth so far is the greatest depth of all items, or 0 if there are none (profile)
abbrev pub DepthFromAll : Type 0
DepthFromAll =
    (c : Context) (earlier : List Item)
    → depth_before c earlier ≡ fold max 0 (map_with_earlier (depth_of c) earlier)
