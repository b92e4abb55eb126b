-- The numbers of the listed codes: type 1 (RFC 4443, section 3.1), type 3 (section 3.3), type 4 (section 3.4; RFC 7112, 8754, 8883).
-- Assumes nothing.
use Rattle.std.specs.Prelude.{ℕ, Option, None, Some, cond, [], ◌∷◌, eqb, ltb}
use Rattle.paper.specs.Paper.{Paper, gives}
use Rattle.icmpv6_codes.specs.declared.dest_unreachable_code.DestUnreachableCode.{DestUnreachableCode}
use Rattle.icmpv6_codes.specs.declared.dest_unreachable_code.DestUnreachableCode.TheVariants.{NoRoute, Prohibited, BeyondScope, Address, Port, SourceAddressFailedPolicy, RejectRoute}
use Rattle.icmpv6_codes.specs.declared.time_exceeded_code.TimeExceededCode.{TimeExceededCode}
use Rattle.icmpv6_codes.specs.declared.time_exceeded_code.TimeExceededCode.TheVariants.{HopLimitExceeded, FragmentReassemblyTimeExceeded}
use Rattle.icmpv6_codes.specs.declared.parameter_problem_code.ParameterProblemCode.{ParameterProblemCode}
use Rattle.icmpv6_codes.specs.declared.parameter_problem_code.ParameterProblemCode.TheVariants.{ErroneousHeaderField, UnrecognizedNextHeader, UnrecognizedIpv6Option, FirstFragmentIncompleteHeaderChain, SrUpperLayerHeaderError, UnrecognizedNextHeaderByIntermediateNode, ExtensionHeaderTooBig, ExtensionHeaderChainTooLong, TooManyExtensionHeaders, TooManyOptionsInExtensionHeader, OptionTooBig}

-- a code of a type that lists n of them from 0 on; no value where it is not listed
unfoldable pub listed : ℕ → ℕ → Paper
listed n code = cond (ltb code n) (gives (code ∷ [])) (gives [])

abbrev pub dest_number : DestUnreachableCode → ℕ
dest_number NoRoute = 0
dest_number Prohibited = 1
dest_number BeyondScope = 2
dest_number Address = 3
dest_number Port = 4
dest_number SourceAddressFailedPolicy = 5
dest_number RejectRoute = 6

-- the code of a number that is listed; of another, the last
abbrev pub dest_of : ℕ → DestUnreachableCode
dest_of n =
    cond (eqb n 0) NoRoute
    (cond (eqb n 1) Prohibited
    (cond (eqb n 2) BeyondScope
    (cond (eqb n 3) Address
    (cond (eqb n 4) Port
    (cond (eqb n 5) SourceAddressFailedPolicy RejectRoute)))))

abbrev pub dest_told : Option DestUnreachableCode → Paper
dest_told (Some c) = gives (dest_number c ∷ [])
dest_told None = gives []

abbrev pub time_number : TimeExceededCode → ℕ
time_number HopLimitExceeded = 0
time_number FragmentReassemblyTimeExceeded = 1

abbrev pub time_of : ℕ → TimeExceededCode
time_of n = cond (eqb n 0) HopLimitExceeded FragmentReassemblyTimeExceeded

abbrev pub time_told : Option TimeExceededCode → Paper
time_told (Some c) = gives (time_number c ∷ [])
time_told None = gives []

abbrev pub problem_number : ParameterProblemCode → ℕ
problem_number ErroneousHeaderField = 0
problem_number UnrecognizedNextHeader = 1
problem_number UnrecognizedIpv6Option = 2
problem_number FirstFragmentIncompleteHeaderChain = 3
problem_number SrUpperLayerHeaderError = 4
problem_number UnrecognizedNextHeaderByIntermediateNode = 5
problem_number ExtensionHeaderTooBig = 6
problem_number ExtensionHeaderChainTooLong = 7
problem_number TooManyExtensionHeaders = 8
problem_number TooManyOptionsInExtensionHeader = 9
problem_number OptionTooBig = 10

abbrev pub problem_of : ℕ → ParameterProblemCode
problem_of n =
    cond (eqb n 0) ErroneousHeaderField
    (cond (eqb n 1) UnrecognizedNextHeader
    (cond (eqb n 2) UnrecognizedIpv6Option
    (cond (eqb n 3) FirstFragmentIncompleteHeaderChain
    (cond (eqb n 4) SrUpperLayerHeaderError
    (cond (eqb n 5) UnrecognizedNextHeaderByIntermediateNode
    (cond (eqb n 6) ExtensionHeaderTooBig
    (cond (eqb n 7) ExtensionHeaderChainTooLong
    (cond (eqb n 8) TooManyExtensionHeaders
    (cond (eqb n 9) TooManyOptionsInExtensionHeader OptionTooBig)))))))))

abbrev pub problem_told : Option ParameterProblemCode → Paper
problem_told (Some c) = gives (problem_number c ∷ [])
problem_told None = gives []
