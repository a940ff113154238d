-- The line of the places of an entry's calls. All of it is this project's own.
use Rattle.std.specs.Prelude.{ℕ, List, ◌++◌, codes}
use Rattle.std.specs.Fmt.{signed_decimal}
use Rattle.dvg_survey.specs.declared.places.CallPlaces.{CallPlaces}
use Rattle.dvg_survey.specs.declared.places.CallPlaces.TheVariants.{Anywhere, Nowhere, Within}
use Rattle.dvg_survey.specs.declared.places.EntryPlaces.{EntryPlaces}
use Rattle.dvg_spelling.specs.Report.{entry_text}

-- X0,X1,Y0,Y1, as `--window` has them: from X0 to X1 across, from Y0 to Y1 up, in screen places
abbrev pub places_text : CallPlaces → List ℕ
places_text Anywhere = codes "anywhere"
places_text Nowhere = codes "nowhere"
places_text (Within r) =
    signed_decimal r.x_min ++ codes "," ++ signed_decimal r.x_max ++ codes "," ++ signed_decimal r.y_min ++ codes ","
    ++ signed_decimal r.y_max

-- the whole line
abbrev pub place_line : EntryPlaces → List ℕ
place_line p = codes "place " ++ entry_text p.entry.addr p.entry.key ++ codes " " ++ places_text p.places ++ codes "\n"
