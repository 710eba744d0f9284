-- Rows in which macros of several kinds meet, with what a C compiler makes of them.
use Rattle.std.specs.Prelude.{ℕ, List, [], ◌∷◌, codes}
use Rattle.meaning_macros.specs.examples.Rows.{BecomesTextOf}

-- macros whose calls nest
abbrev pub register_macros : List (List ℕ)
register_macros =
    codes "base 0x40"
    ∷ codes "reg(n) base + (n)"
    ∷ codes "at(r, i) reg(r * (i))"
    ∷ codes "pick at"
    ∷ codes "both(m) m(base, 1)"
    ∷ codes "open reg(~"
    ∷ codes "self(a) self(base * (a))" ∷ []

-- macros that make strings and names
abbrev pub string_macros : List (List ℕ)
string_macros =
    codes "STR(x) # x"
    ∷ codes "XSTR(x) STR(x)"
    ∷ codes "CAT(a, b) a ## b"
    ∷ codes "XCAT(a, b) CAT(a, b)"
    ∷ codes "VERSION(n) ver ## n"
    ∷ codes "note(s, t) printk(\"<\" # s \"> %d %s\\n\", s ## _len, CAT(t, s))"
    ∷ codes "NAME \"driver\""
    ∷ codes "TAG TAG \": probe\"" ∷ []

-- a macro that pastes three times
abbrev pub pasting_macro : List (List ℕ)
pasting_macro =
    codes "three(x, y, z) x ## y ## z" ∷ []

-- macros that hand their variable arguments on
abbrev pub handing_macros : List (List ℕ)
handing_macros =
    codes "warn(...) printk(KERN_WARNING __VA_ARGS__)"
    ∷ codes "names(...) list(#__VA_ARGS__)"
    ∷ codes "check(test, ...) ((test) ? pass(#test) : warn(__VA_ARGS__))" ∷ []

-- Several macros in one text (6.10.3)
pub record MixedExamples : Type 0 where
  -- names of macros as arguments, a call over the end of a body, and a macro within itself
  pub names_of_macros :
      BecomesTextOf register_macros (codes "at(base, reg(3)) - pick(2, self(base))(5);") (codes "0x40 + (0x40 * (0x40 + (3))) - 0x40 + (2 * (self(0x40 * (0x40))))(5);")
      × BecomesTextOf register_macros (codes "both(pick) | open 7) & both\n(at)^both(both);") (codes "0x40 + (0x40 * (1)) | 0x40 + (~ 7) & 0x40 + (0x40 * (1))^both(0x40, 1);")
  -- arguments as strings and in names
  pub strings :
      BecomesTextOf string_macros (codes "note(rx, tx_);") (codes "printk(\"<\" \"rx\" \"> %d %s\\n\", rx_len, tx_rx);")
      × BecomesTextOf string_macros (codes "STR(strcmp(\"a\\0b\", \"a\", '\\7') // this goes\n!= 0) STR(@\\n);") (codes "\"strcmp(\\\"a\\\\0b\\\", \\\"a\\\", '\\\\7') != 0\" \"@\\n\";")
      × BecomesTextOf string_macros (codes "XSTR(VERSION(6).h)") (codes "\"ver6.h\"")
      × BecomesTextOf string_macros (codes "CAT(NA, ME); XCAT(TA, G);") (codes "\"driver\"; TAG \": probe\";")
  -- empty operands of `##`
  pub empty_operands :
      BecomesTextOf pasting_macro (codes "int j[] = { three(4,5,6), three(,7,8), three(9,,1), three(2,3,),\nthree(14,,), three(,15,), three(,,16), three(,,) };") (codes "int j[] = { 456, 78, 91, 23,\n14, 15, 16, };")
  -- variable arguments handed on
  pub variable :
      BecomesTextOf handing_macros (codes "warn(\"Flag\"); warn(\"n = %d\\n\", n);") (codes "printk(KERN_WARNING \"Flag\"); printk(KERN_WARNING \"n = %d\\n\", n);")
      × BecomesTextOf handing_macros (codes "names(one two, three, and \"four\" items.);") (codes "list(\"one two, three, and \\\"four\\\" items.\");")
      × BecomesTextOf handing_macros (codes "check(a<b, \"a %d b %d\", a, b);") (codes "((a<b) ? pass(\"a<b\") : printk(KERN_WARNING \"a %d b %d\", a, b));")
