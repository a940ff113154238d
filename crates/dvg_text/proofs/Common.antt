-- The names that these proofs share, passed on from one place, the most cited first. Declares nothing.
pub use Rattle.std.proofs.Common.{◌≢◌, append_assoc, eqb, ltb, leb, map, replicate, drop-cons, length-drop, lit<, lit≤, drop_of_length-le, w64, Result, Err, Ok}
pub use Rattle.std.specs.Prelude.{decimal, codes, nat_le, pos, neg_ℤ, negsuc, ℤ, OnErr, count_by, int_le}
pub use Rattle.std.proofs.lemmas.List.{append-nil, length-append, take-append-drop, length-map, take-take, get_or-take, length-replicate, nil_from_length, take-append-le, take_rest}
pub use Rattle.std.specs.Str.Parse.{AllDigits, digits_value}
pub use Rattle.std.proofs.lemmas.Option.{none-some, cond_some, some_pair_parts}
pub use Rattle.std.proofs.lemmas.Fmt.{decimal_is_IsNumeral, decimal-digits_value, length-decimal-le, decimal_digit, decimal-digits_of}
pub use Rattle.std.proofs.lemmas.Bool.{cases_eq, ne_eqb, eqb-true, agree_below_at, and_parts}
pub use Rattle.std.specs.List.{prefix_len, flat_map, join_with_byte}
pub use Rattle.std.proofs.lemmas.Str.Parse.{digit_from_value, digits_value_short, IsNumeralModel}
pub use Rattle.std.specs.Option.{option_map, option_or}
pub use Rattle.std.specs.Fmt.{signed_decimal, digit_glyph}
pub use Rattle.std.proofs.Math.Seq.{take-length, take-append-add, take-append_seam, take-add}
pub use Rattle.std.specs.Str.{bytes_eq}
pub use Rattle.std.specs.Char.{digit_value}
pub use Rattle.std.proofs.lemmas.Int.Digits.{digits_value_more, digits_value-lt, digits_of_step}
pub use Rattle.std.specs.Io.KnownBytes.{Appends}
pub use Rattle.std.proofs.KnownBytes.{Appends-nil, Appends-trans}
pub use Rattle.std.proofs.lemmas.Nat.{and_block, and_mask}
pub use Rattle.std.proofs.lemmas.Slice.Eq.{bytes_eq-Decides}
pub use Rattle.std.proofs.lemmas.Str.{digit_value_digit}
pub use Rattle.std.proofs.lemmas.Result.{on_err_weaker, on_ok_weaker}
pub use Rattle.std.proofs.lemmas.List.Concat.{flat_map-append}
pub use Rattle.dvg_cert.proofs.Common.{◌≡◌, ℕ, ◌+◌, ◌-◌, ◌<◌, ◌≤◌, Bool, true, false, List, [], ◌∷◌, ◌++◌, length, Option, Some, None, refl, sym, ap, subst, ◌∙◌, arith, inl, inr, ◌⊎◌, ◌==◌, nat_lt, nat_tests, MemoryMap, Before, StandsAfter, suc, cond, take, drop, position, not, position_or_len, zero, add-one, length-take-le, rules, common_steps, get_or, one-add, ◌&&◌, IfSome, IfNone, if◌then◌else◌, IsMap, IsEntry, AllByRecursion, IsCertificate}
pub use Rattle.dvg_words.proofs.Common.{◌%◌, ◌^◌, ◌*◌, ◌/◌, ints, to_z-of_z}
pub use Rattle.dvg_text.specs.Reading.{Line, EntryLine, DoneLine, IsLine, Taken, Nothing, Versioned, Begun, Whole, text_taken, line_number, Holds, MayStand, IsUnended, IsWrong, Meets, StopsAt, IsRefusal, Without, IsElsewhere, IsTaken, IsRest, ReadAnswer, HasEntryAt}
pub use Rattle.dvg_text.specs.Grammar.{first_version_line, second_version_line, done_line, ended, text_of, address_token, key_token, rom_line, heading, entry_line, end_tokens, box_tokens, entry_tokens, Spells}
pub use Rattle.dvg_cert.specs.declared.fault.CertWhy.TheVariants.{Form, Order, Count, After, TooLong, Memory, Unended}
pub use Rattle.dvg_text.specs.Limits.{LONGEST_LINE, LINE_FEED, MOST_MAGNITUDE, SPACE}
unfoldable pub use Rattle.dvg_text.specs.Private.Fields.{
  natural_in,
  address_in,
  rom_at,
  past,
  digits_off,
  natural_at,
  digit_at,
  address_at,
  key_at,
  number_at,
  two_at,
  end_at,
  span_at,
  box_at,
  entry_at,
  done_at,
}
pub use Rattle.dvg_cert.specs.Entry.{IsNumber, IsKey, IsEnd, IsBox}
pub use Rattle.dvg_cert.specs.declared.entry.Entry.{Entry}
pub use Rattle.dvg_text.specs.Private.Fields.{NoDigitFirst, hex_value, nothing_left}
unfoldable pub use Rattle.dvg_text.specs.Grammar.{begun_with}
pub use Rattle.dvg_text.specs.Private.Progress.{IsLineRefused, EndsLine, StartsWith, taken_of, IsStaged, TakesEntry}
pub use Rattle.dvg_cert.specs.declared.limits.TheConstants.{MOST_ENTRIES, MOST_WORDS}
pub use Rattle.dvg_words.specs.Values.{asteroids, is_asteroids}
pub use Rattle.dvg_cert.proofs.Rising.{certificate_push, no_entry_yet, small_map}
pub use Rattle.dvg_text.specs.Private.Writing.{spaced, Buffered}
pub use Rattle.dvg_words.specs.declared.map.TheConstants.{ADDRESS_END, RAM_WORDS, MEMORY_LAST}
pub use Rattle.dvg_cert.specs.declared.fault.CertWhy.{CertWhy}
pub use Rattle.dvg_cert.specs.declared.entry.Key.{Key}
pub use Rattle.dvg_cert.proofs.ListParts.{each_mid, rising_mid, cut_at}
pub use Rattle.dvg_text.specs.Devices.{AppendsPrefix, count_after}
pub use Rattle.dvg_cert.specs.declared.fault.CertFault.{CertFault}
pub use Rattle.dvg_cert.specs.Order.{Certificate}
pub use Rattle.dvg_cert.specs.declared.entry.End.{End}
pub use Rattle.dvg_cert.specs.declared.entry.LitBox.{LitBox}
