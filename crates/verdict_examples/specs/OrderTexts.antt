-- Texts that several worked cases put before the one that is judged.
use Rattle.std.specs.Prelude.{codes}
use Rattle.name_meaning.specs.Names.{Text}

abbrev pub text_A : Text
text_A = codes "%sig A = { a : type. b : type. f : a -> a. p : a -> type. c : a. g : (a -> a) -> a. }."

abbrev pub text_T : Text
text_T = codes "%sig T = { u : type. v : type. x : u. y : v. }."

abbrev pub text_Car : Text
text_Car = codes "%sig Car = { a : type. k : a. }."

abbrev pub text_H : Text
text_H = codes "%sig H = { %struct m : Car. h : m.a. }."

abbrev pub text_VC : Text
text_VC = codes "%view VC : Car -> T = { a := u. k := x. }."

abbrev pub text_Big : Text
text_Big = codes "%sig Big = { %include Car. z : a. }."

abbrev pub text_VB : Text
text_VB = codes "%view VB : Big -> T = { %include VC. z := x. }."

abbrev pub text_R : Text
text_R = codes "%sig R = { a : type. }."

abbrev pub text_E : Text
text_E = codes "%sig E = { %include R. }."

abbrev pub text_HE : Text
text_HE = codes "%sig HE = { %include R. %struct m : E. }."

abbrev pub text_VR1 : Text
text_VR1 = codes "%view VR1 : R -> T = { a := u. }."

abbrev pub text_X : Text
text_X = codes "%sig X = { %include R. w : a. }."

abbrev pub text_VX : Text
text_VX = codes "%view VX : X -> T = { %include VR1. w := x. }."

abbrev pub text_P : Text
text_P = codes "%sig P = { %include R. p : a. }."

abbrev pub text_TT : Text
text_TT = codes "%sig TT = { %include T. }."

abbrev pub text_T2 : Text
text_T2 = codes "%sig T2 = { %include T. t : u. }."

abbrev pub text_O : Text
text_O = codes "%sig O = { o : type. o1 : o. }."

abbrev pub text_VO : Text
text_VO = codes "%view VO : T -> O = { u := o. v := o. x := o1. y := o1. }."

abbrev pub text_W2 : Text
text_W2 = codes "%view W2 : T2 -> O = { %include VO. t := o1. }."

abbrev pub text_Df : Text
text_Df = codes "%sig Df = { a : type. c : a. d : a = c. }."

abbrev pub text_TD : Text
text_TD = codes "%sig TD = { b : type. k : b. l : b. }."

abbrev pub text_HD : Text
text_HD = codes "%sig HD = { e : type. k : e. %struct m : Df = { a := e. c := k. }. }."

abbrev pub text_VD : Text
text_VD = codes "%view VD : Df -> TD = { a := b. c := l. d := l. }."

abbrev pub text_B : Text
text_B = codes "%sig B = { %include Z. }."

abbrev pub text_C : Text
text_C = codes "%sig C = { %include Z. }."

abbrev pub text_V : Text
text_V = codes "%view V : Z -> A = { }."

abbrev pub text_Q : Text
text_Q = codes "%sig Q = { %include R. q : a. }."

abbrev pub text_S : Text
text_S = codes "%sig S = { %include P. %include Q. }."

abbrev pub text_TQ : Text
text_TQ = codes "%sig TQ = { %include Q. r : type. x : r. }."

abbrev pub text_VPQ : Text
text_VPQ = codes "%view VPQ : P -> TQ = { %include VRQ. p := x. }."

abbrev pub text_VRQ : Text
text_VRQ = codes "%view VRQ : R -> TQ = { a := r. }."

abbrev pub text_I1 : Text
text_I1 = codes "%view I1 : R -> P = { a := a. }."

abbrev pub text_P2 : Text
text_P2 = codes "%sig P2 = { %include P. r : type. }."

abbrev pub text_I2 : Text
text_I2 = codes "%view I2 : R -> P2 = { a := r. }."

abbrev pub text_Q2 : Text
text_Q2 = codes "%sig Q2 = { %include R. q : a. }."

abbrev pub text_S2 : Text
text_S2 = codes "%sig S2 = { %include P. %include Q2. s : type. }."

abbrev pub text_I1_2 : Text
text_I1_2 = codes "%view I1 : P -> TQ = { %include J1. p := q. }."

abbrev pub text_J1 : Text
text_J1 = codes "%view J1 : R -> TQ = { a := a. }."

abbrev pub text_I2_2 : Text
text_I2_2 = codes "%view I2 : P -> TQ = { %include J2. p := x. }."

abbrev pub text_J2 : Text
text_J2 = codes "%view J2 : R -> TQ = { a := r. }."

abbrev pub text_VR2 : Text
text_VR2 = codes "%view VR2 : R -> T = { a := v. }."

abbrev pub text_VP : Text
text_VP = codes "%view VP : P -> T = { %include VR1. p := x. }."

abbrev pub text_RR : Text
text_RR = codes "%sig RR = { %include R. r : type. }."

abbrev pub text_VR : Text
text_VR = codes "%view VR : R -> RR = { a := r. }."

abbrev pub text_PP : Text
text_PP = codes "%sig PP = { %include R. p : a. }."

abbrev pub text_PR : Text
text_PR = codes "%sig PR = { %include R. r : type. x : r. }."

abbrev pub text_VR3 : Text
text_VR3 = codes "%view VR3 : R -> PR = { a := r. }."

abbrev pub text_W1 : Text
text_W1 = codes "%sig W1 = { %include P. r : type. t : type. }."

abbrev pub text_J1_2 : Text
text_J1_2 = codes "%view J1 : R -> W1 = { a := r. }."

abbrev pub text_J2_2 : Text
text_J2_2 = codes "%view J2 : R -> W1 = { a := t. }."

abbrev pub text_P9 : Text
text_P9 = codes "%sig P9 = { %include R. p9 : a. }."

abbrev pub text_K1 : Text
text_K1 = codes "%view K1 : R -> W1 = { a := a. }."

abbrev pub text_Q3 : Text
text_Q3 = codes "%sig Q3 = { %include P. %include P9. w : type. }."
